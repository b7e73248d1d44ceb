-- The n of a listing is the least from which on every address is blank.
-- Assumes nothing.
use Prim.Native.Nat.{ℕ, zero, suc, ◌≤◌, ◌<◌}
use native.Mathlib.Omega.{arith}
use mathlib.Core.Path.{◌≡◌, sym, ◌∙◌}
use mathlib.Core.Bool.{true}
use lib.Dec.{leb, ltb}
use borrow.Author.Tests.{ltb-true, ltb-false, leb-true, leb-false}
use Rattle.rules.proofs.Tests.{absurd_bool}
use Rattle.rules.specs.Sheet.{Listing}
use Rattle.slices.proofs.Bools.{by_test}
use Rattle.files.specs.File.{blank, used_below}

module _ (L : Listing) where
  pub used_within : (m : ℕ) → used_below L m ≤ m
  unfolding used_below
  used_within zero = omega arith
  used_within (suc m) = by_test (blank L m) (λ e. let h = used_within m in rw e (omega arith)) (λ e. rw e (omega arith))

  pub blank_after : (m a : ℕ) → used_below L m ≤ a → a < m → blank L a ≡ true
  unfolding used_below
  blank_after zero a l h = absurd (omega arith)
  blank_after (suc m) a l h =
      by_test (blank L m)
      (λ e.
      let k : used_below L m ≤ a = rw e at l in
      by_test (ltb a m)
      (λ t. blank_after m a k (ltb-true a m t))
      (λ t. let b = ltb-false a m t in let q : m ≡ a = omega arith in rw (← q) e))
      (λ e. let k : suc m ≤ a = rw e at l in absurd (omega arith))

  pub used_least : (m k : ℕ) → ((a : ℕ) → k ≤ a → a < m → blank L a ≡ true) → used_below L m ≤ k
  unfolding used_below
  used_least zero k h = omega arith
  used_least (suc m) k h =
      by_test (blank L m)
      (λ e. rw e (used_least m k (λ a l b. h a l (omega arith))))
      (λ e.
      rw e
      (by_test (leb k m)
      (λ t. absurd_bool (sym (h m (leb-true k m t) (omega arith)) ∙ e))
      (λ t. let b = leb-false k m t in omega arith)))
