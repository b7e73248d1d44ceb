-- Bit 7 of `a & b` is that of both.
use Rattle.std.proofs.Common.{ℕ, eqb, ap}
use lib.Bits.{and_shr}
use Rattle.alu.proofs.both_high.Goals as goal

pub returns : goal.returns
returns c = ap (λ (n : ℕ). eqb n 1) (and_shr c.args.a c.args.b 7)
