-- The order of a busy page is strict and total, so the executed addresses in it are one list.
-- Assumes nothing.
use Prim.Native.Nat.{ℕ, ◌<◌, ◌≤◌}
use mathlib.Core.Path.{◌≡◌}
use mathlib.Core.Bool.{true}
use mathlib.Core.List.{List}
use mathlib.Core.Logic.{◌⊎◌, inl, inr, ⊎_elim}
use native.Mathlib.Omega.{arith}
use lib.Dec.{eqb, ltb}
use lib.ListN.{length}
use borrow.Author.Tests.{ltb-true, ltb-false, eqb-true, lt-ltb, le-ltb, eq-eqb}
use Rattle.slices.specs.Sizes.{bank_size}
use Rattle.slices.proofs.Bools.{by_test, both}
use Rattle.ranking.specs.Busier.{is_executed, precedes, counted, busier}
use Rattle.ranking.specs.Ranking.{StrictOrder, Ranking}
use Rattle.ranking.specs.internal.Selection.{none, ranked_by}
use Rattle.ranking.specs.declared.AddressCount.{AddressCount}
use Rattle.ranking.proofs.Ranks.{ranking, list_short}

-- a larger count, or as large a count at a lower address
abbrev Before : AddressCount → AddressCount → Type 0
Before x y = (y.count < x.count) ⊎ ((x.count ≡ y.count) × (x.address < y.address))

is_before : (x y : AddressCount) → precedes x y ≡ true → Before x y
unfolding precedes
is_before x y h =
    by_test (ltb y.count x.count)
    (λ e. inl (ltb-true y.count x.count e))
    (λ e.
    let w = both (eqb x.count y.count) (ltb x.address y.address) (rw e at h) in
    inr (eqb-true x.count y.count w.0, ltb-true x.address y.address w.1))

before_is : (x y : AddressCount) → Before x y → precedes x y ≡ true
unfolding precedes
before_is x y h =
    ⊎_elim
    (λ l. rw (lt-ltb y.count x.count l))
    (λ w. rw (le-ltb y.count x.count (omega arith), eq-eqb x.count y.count w.0, lt-ltb x.address y.address w.1))
    h

before_on : (x y z : AddressCount) → Before x y → Before y z → Before x z
before_on x y z h k =
    ⊎_elim
    (λ l. ⊎_elim (λ m. inl (omega arith)) (λ m. inl (omega arith)) k)
    (λ l. ⊎_elim (λ m. inl (omega arith)) (λ m. inr (omega arith, omega arith)) k)
    h

one_before : (x y : AddressCount) → (x.address ≡ y.address → ⊥) → Before x y ⊎ Before y x
one_before x y q =
    by_test (ltb y.count x.count)
    (λ e. inl (inl (ltb-true y.count x.count e)))
    (λ e.
    by_test (ltb x.count y.count)
    (λ f. inr (inl (ltb-true x.count y.count f)))
    (λ f.
    let g : y.count ≤ x.count = ltb-false x.count y.count f in
    let h : x.count ≤ y.count = ltb-false y.count x.count e in
    by_test (ltb x.address y.address)
    (λ l. let m = ltb-true x.address y.address l in inl (inr (omega arith, m)))
    (λ l. let m = ltb-false x.address y.address l in inr (inr (omega arith, omega arith)))))

module _ (c : List ℕ) where
  pub busier_order : StrictOrder (busier c)
  unfolding busier
  busier_order =
      record {
        irreflexive = λ a.
            by_test (precedes (counted c a) (counted c a))
            (λ h. absurd (⊎_elim (λ l. omega arith) (λ w. omega arith) (is_before (counted c a) (counted c a) h)))
            (λ h. h);
        transitive = λ a b d h k.
            before_is (counted c a) (counted c d)
            (before_on (counted c a) (counted c b) (counted c d) (is_before (counted c a) (counted c b) h) (is_before (counted c b) (counted c d) k));
        total = λ a b q.
            ⊎_elim
            (λ h. inl (before_is (counted c a) (counted c b) h))
            (λ h. inr (before_is (counted c b) (counted c a) h))
            (one_before (counted c a) (counted c b) q);
      }

  -- exactly the addresses with a count above 0, each once, in the order
  pub ranked_ranking : Ranking (busier c) (is_executed c) (ranked_by c)
  unfolding ranked_by
  ranked_ranking = ranking busier_order (is_executed c)

  pub ranked_short : length (ranked_by c) ≤ bank_size
  unfolding ranked_by
  ranked_short = list_short busier_order (is_executed c) bank_size none
