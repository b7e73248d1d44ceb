-- Lengths that add up: where a part begins is the sum of the lengths before it, and what is left of a total falls by each.
-- Assumes nothing.
use mathlib.Core.Path.{◌≡◌, refl, sym, ap, ◌∙◌}
use mathlib.Core.Bool.{false}
use mathlib.Core.List.{List, [], ◌∷◌}
use Prim.Native.Nat.{ℕ, ◌+◌, ◌≤◌, ◌<◌}
use native.Mathlib.Omega.{arith}
use lib.Dec.{eqb}
use lib.ListN.{length, get_or, take}
use borrow.Author.Tests.{eqb-true, eqb-false, eq-eqb, ne_eqb}
use Rattle.std.proofs.Common.{take_all}
use Rattle.std.specs.List.{sum}
use Rattle.std.proofs.lemmas.List.Sums.{sum_by-cons, sum_by_more_le}
use Rattle.slices.specs.Lists.{total_of}
use Rattle.slices.proofs.Bools.{by_test}
use Rattle.seats.specs.Room.{begin_of}

total_is : (l : List ℕ) → total_of l ≡ sum l
total_is [] = refl
total_is (x ∷ l) = ap (λ (n : ℕ). x + n) (total_is l) ∙ sym (sum_by-cons (λ (n : ℕ). n) x l)

pub begin_is : (l : List ℕ) (i : ℕ) → begin_of l i ≡ sum (take i l)
unfolding begin_of
begin_is l i = total_is (take i l)

module _ (l : List ℕ) (j left total : ℕ) (h : left + sum (take j l) ≡ total) where
  -- a length over what is left: the sum is over the total
  pub left_short : j < length l → (get_or l j 0 ≤ left → ⊥) → false ≡ eqb (sum l) total
  left_short k g =
      let e : sum (take j l) + get_or l j 0 ≤ sum l = sum_by_more_le (λ (n : ℕ). n) l j 0 k in
      sym (ne_eqb (sum l) total (omega arith))

  -- every length is taken off
  pub left_ends : length l ≤ j → eqb left 0 ≡ eqb (sum l) total
  left_ends k =
      let s : left + sum l ≡ total = rw (take_all j l k) at h in
      by_test (eqb left 0)
      (λ e. let z : left ≡ 0 = eqb-true left 0 e in e ∙ sym (eq-eqb (sum l) total (omega arith)))
      (λ e. let z = eqb-false left 0 e in e ∙ sym (ne_eqb (sum l) total (omega arith)))
