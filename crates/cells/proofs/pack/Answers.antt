-- Each number is a byte, so it is its remainder.
use Rattle.std.proofs.Common.{◌≡◌, Bool, true, false, refl, arith}
use mir.Val.{bool_byte}
use Rattle.drawings.specs.internal.Cells.{bit, packed}
use Rattle.cells.proofs.pack.Goals as goal

as_bit : (v : Bool) → bool_byte v ≡ bit v
as_bit true = refl
as_bit false = refl

pub returns : goal.returns
unfolding packed
returns c = omega (arith, as_bit c.args.c.mark)
