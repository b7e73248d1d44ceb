-- Borrow and V by the bytes are those of the exact and the signed difference.
use Rattle.std.proofs.Common.{ℕ, ◌+◌, ◌-◌, ◌%◌, ◌<◌, ◌≡◌, ◌||◌, ltb, sym, ap, ◌∙◌, arith}
use Rattle.alu.specs.Alu.{bit, difference_of}
use Rattle.alu.specs.declared.Overflow.TheVariants.{Settled}
use Rattle.alu.proofs.SignBits.{difference_overflow, difference_borrows}
use Rattle.alu.proofs.Wraps.{same_computed, bit_le, wraps_sub, taken_back}
use Rattle.alu.proofs.difference.Goals as goal

pub returns : goal.returns
unfolding difference_of
returns c =
    let a = c.args in
    let f = c.ranges in
    let k = bit a.k in
    let n = c.bit_of-n.result in
    let t : ℕ = (a.x + (256 - a.y)) % 256 in
    let r : ℕ = (t + (256 - n)) % 256 in
    let t_small : t < 256 = omega arith in
    let small : r < 256 = omega arith in
    let first = taken_back a.x a.y f.x.fits f.y.fits in
    let second = sym (ap (λ (m : ℕ). (r + m) % 256) c.bit_of-n.ensures) ∙ taken_back t n t_small c.bit_of-n.type_inv in
    let whole = wraps_sub small f.y.fits (bit_le a.k) first second in
    c.with_flags.ensures
    ∙ same_computed whole
    (ap (λ (m : ℕ). ltb a.x a.y || ltb t m) c.bit_of-n.ensures
    ∙ difference_borrows a.x a.y k r f.x.fits f.y.fits (bit_le a.k) small t t_small first)
    (ap Settled (c.both_high-v.ensures ∙ difference_overflow a.x a.y k r f.x.fits f.y.fits (bit_le a.k) small whole))
