-- The addresses of the page are the executed ones: an address stands in a row exactly if its count is above 0.
-- Assumes nothing.
use Prim.Native.Nat.{ℕ, ◌<◌, ◌≤◌}
use mathlib.Core.Path.{sym}
use mathlib.Core.List.{List, [], ◌∷◌}
use mathlib.Core.Logic.{inl, inr, ⊎_elim}
use native.Mathlib.Omega.{arith}
use lib.Dec.{eqb, ltb}
use lib.ListN.{length, get_or-eq_default}
use borrow.Author.Tests.{ltb-true, ltb-false, lt-ltb, eqb-true, eqb-false}
use Rattle.slices.specs.Sizes.{bank_size}
use Rattle.slices.proofs.Bools.{by_test}
use Rattle.executions.specs.Executed.{times_in, counters_of}
use Rattle.executions.specs.internal.Addresses.{Addresses}
use Rattle.executions.proofs.Counting.{counter_at, counters_length}
use Rattle.ranking.specs.Busier.{count_at}
use Rattle.ranking.specs.Ranking.{In}
use Rattle.ranking.specs.internal.Selection.{ranked_by}
use Rattle.ranking.proofs.Order.{ranked_ranking}

times_listed : (l : List ℕ) (a : ℕ) → 0 < times_in l a → In a l
unfolding times_in
times_listed [] a h = absurd (omega arith)
times_listed (x ∷ l) a h =
    by_test (eqb x a) (λ e. inl (sym (eqb-true x a e))) (λ e. inr (times_listed l a (rw e at h)))

in_times : (l : List ℕ) (a : ℕ) → In a l → 0 < times_in l a
unfolding times_in
in_times [] a i = absurd i
in_times (x ∷ l) a i =
    by_test (eqb x a)
    (λ e. rw e (omega arith))
    (λ e. rw e (⊎_elim (λ q. absurd (eqb-false x a e (sym q))) (λ j. in_times l a j) i))

times_most : (l : List ℕ) (a : ℕ) → times_in l a ≤ length l
unfolding times_in
times_most [] a = omega arith
times_most (x ∷ l) a = by_test (eqb x a) (λ e. rw e (omega (arith, times_most l a))) (λ e. rw e (omega (arith, times_most l a)))

in_below : (l : List ℕ) → Addresses l → (a : ℕ) → In a l → a < bank_size
in_below [] b a i = absurd i
in_below (x ∷ l) b a i = ⊎_elim (λ e. rw e b.0) (λ j. in_below l b.1 a j) i

module _ (l : List ℕ) where
  -- no count is over the length of the row
  pub counts_few : (a : ℕ) → count_at (counters_of l) a ≤ length l
  counts_few a =
      by_test (ltb a bank_size)
      (λ e. rw (counter_at l a (ltb-true a bank_size e)) (times_most l a))
      (λ e. rw (get_or-eq_default (counters_of l) 0 {n = a} (rw (counters_length l) (ltb-false a bank_size e))) (omega arith))

  pub listed_executed : (a : ℕ) → In a (ranked_by (counters_of l)) → In a l
  listed_executed a i =
      let w = (ranked_ranking (counters_of l)).only a i in
      times_listed l a (rw (counter_at l a w.0) at (ltb-true 0 (count_at (counters_of l) a) w.1))

  pub executed_listed : Addresses l → (a : ℕ) → In a l → In a (ranked_by (counters_of l))
  executed_listed b a i =
      let h = in_below l b a i in
      (ranked_ranking (counters_of l)).all a h (lt-ltb 0 (count_at (counters_of l) a) (rw (counter_at l a h) (in_times l a i)))
