-- Carry and V by the bytes are those of the exact and the signed sum.
use Rattle.std.proofs.Common.{ℕ, ◌+◌, ◌%◌, ◌<◌, ◌≡◌, refl, ap, ◌∙◌, arith}
use Rattle.alu.specs.Alu.{bit, sum_of}
use Rattle.alu.specs.declared.Overflow.TheVariants.{Settled}
use Rattle.alu.proofs.SignBits.{sum_overflow, sum_carries}
use Rattle.alu.proofs.Wraps.{same_computed, bit_le, wraps_add}
use Rattle.alu.proofs.sum.Goals as goal

pub returns : goal.returns
unfolding sum_of
returns c =
    let a = c.args in
    let f = c.ranges in
    let k = bit a.k in
    let t : ℕ = (a.x + a.y) % 256 in
    let r : ℕ = (t + c.bit_of-n.result) % 256 in
    let small : r < 256 = omega arith in
    let second : r ≡ (t + k) % 256 = ap (λ (n : ℕ). (t + n) % 256) c.bit_of-n.ensures in
    let whole = wraps_add a.x a.y k refl second in
    c.with_flags.ensures
    ∙ same_computed whole (sum_carries a.x a.y k r f.x.fits f.y.fits (bit_le a.k) small t refl second)
    (ap Settled (c.both_high-v.ensures ∙ sum_overflow a.x a.y k r f.x.fits f.y.fits (bit_le a.k) small whole))
