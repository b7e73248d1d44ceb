-- The scan over the addresses: the leader so far is the first of the addresses passed.
-- Assumes nothing.
use Prim.Native.Nat.{ℕ, ◌+◌, ◌<◌, ◌≤◌}
use mathlib.Core.Path.{◌≡◌, refl, sym, ap, ◌∙◌}
use mathlib.Core.Bool.{Bool, true, false, ◌||◌}
use mathlib.Core.List.{List}
use native.Mathlib.Numerals.{add-one}
use native.Mathlib.Omega.{arith}
use lib.Dec.{eqb}
use lib.ListN.{length, get_or-eq_default}
use borrow.Author.Tests.{ltb-true, lt-ltb, ne_eqb, eqb-true}
use Rattle.std.specs.Prelude.{Option, Some, None}
use Rattle.std.specs.Option.{is_some, unwrap_or}
use Rattle.slices.specs.Sizes.{bank_size}
use Rattle.slices.proofs.Bools.{by_test}
use Rattle.ranking.specs.Busier.{count_at, is_executed, precedes, counted, busier}
use Rattle.ranking.specs.internal.Selection.{none, known, leads, first_below, takes_lead, leader_of}
use Rattle.ranking.specs.declared.AddressCount.{AddressCount}

pub next_leads : (last best next : AddressCount) → takes_lead last best next ≡ true → next ≡ leader_of last best next
next_leads last best next e = rw e

pub best_leads : (last best next : AddressCount) → takes_lead last best next ≡ false → best ≡ leader_of last best next
best_leads last best next e = rw e

-- an address with a count precedes one without
precedes_none : (x y : AddressCount) → 0 < x.count → y.count ≡ 0 → precedes x y ≡ true
unfolding precedes
precedes_none x y h e = rw (e, lt-ltb 0 x.count h)

-- the leader of the addresses below a
pub record Leading (counters : List ℕ) (last a : ℕ) (best : AddressCount) : Type 0 where
  pub within : a ≤ bank_size
  pub first : best.address ≡ first_below (busier counters) (is_executed counters) last a
  pub count : best.count ≡ count_at counters best.address

module _ (counters : List ℕ) (whole : length counters ≡ bank_size) (last : ℕ) where
  -- none has no count
  none_counted : count_at counters none ≡ 0
  none_counted = get_or-eq_default counters 0 (omega (arith, whole))

  pub lead_starts : Leading counters last 0 (record { address = none; count = 0 })
  unfolding first_below
  lead_starts = record { within = omega arith; first = refl; count = sym none_counted }

  module _ {a : ℕ} {best : AddressCount} (g : Leading counters last a best) (h : a < bank_size) where
    abbrev lead : Bool
    lead = takes_lead (counted counters last) best (counted counters a)

    best_is : best ≡ counted counters best.address
    best_is = ap (λ (n : ℕ). record { address = best.address; count = n }) g.count

    -- of an executed address, the test for none is not needed
    ahead_is : is_executed counters a ≡ true → (eqb best.address none || busier counters a best.address) ≡ precedes (counted counters a) best
    unfolding busier
    ahead_is w =
        ap (λ (b : AddressCount). eqb best.address none || precedes (counted counters a) b) (sym best_is)
        ∙ by_test (eqb best.address none)
        (λ e.
        let z : best.count ≡ 0 = g.count ∙ ap (count_at counters) (eqb-true best.address none e) ∙ none_counted in
        rw e (sym (precedes_none (counted counters a) best (ltb-true 0 (count_at counters a) w) z)))
        (λ e. rw e)

    lead_is : leads (busier counters) (is_executed counters) last best.address a ≡ lead
    unfolding busier
    lead_is = by_test (is_executed counters a) (λ w. rw (w, ← ahead_is w)) (λ w. rw w)

    taken : lead ≡ true → Leading counters last (a + 1) (counted counters a)
    unfolding first_below
    taken t = record { within = omega arith; first = rw (add-one a, ← g.first, lead_is, t); count = refl }

    left : lead ≡ false → Leading counters last (a + 1) best
    unfolding first_below
    left t = record { within = omega arith; first = rw (add-one a, ← g.first, lead_is, t); count = g.count }

    pub lead_goes : Leading counters last (a + 1) (leader_of (counted counters last) best (counted counters a))
    lead_goes = by_test lead (λ t. rw t (taken t)) (λ t. rw t (left t))

  pub lead_ends : {a : ℕ} {best : AddressCount} → Leading counters last a best → bank_size ≤ a
      → best.address ≡ first_below (busier counters) (is_executed counters) last bank_size
  lead_ends {a} g h =
      let e : a ≡ bank_size = omega (arith, g.within) in
      g.first ∙ ap (first_below (busier counters) (is_executed counters) last) e

-- ---- an address that may be none

pub none_known : (n : ℕ) → n ≡ none → None ≡ known n
none_known n e = rw e

pub some_known : {a : ℕ} (n : ℕ) → a ≡ n → (a ≡ none → ⊥) → Some a ≡ known n
some_known n e some = rw (ne_eqb n none (λ z. some (e ∙ z)), e)

in_known : (n : ℕ) → unwrap_or (known n) none ≡ n
in_known n = by_test (eqb n none) (λ e. rw (eqb-true n none e)) (λ e. rw e)

no : true ≡ false → ⊥
no q = let z : ◌≡◌ {A = ℕ} 0 1 = cc in omega arith

module _ {r : Option ℕ} (n : ℕ) (e : r ≡ known n) where
  pub next_told : {a : ℕ} → r ≡ Some a → (a ≡ n) × (a ≡ none → ⊥)
  next_told {a} q =
      let i : a ≡ n = ap (λ (x : Option ℕ). unwrap_or x none) (sym q ∙ e) ∙ in_known n in
      (i, λ z. no (ap is_some (sym q ∙ e) ∙ ap (λ (m : ℕ). is_some (known m)) (sym i ∙ z)))

  pub none_told : ((a : ℕ) → r ≡ Some a → ⊥) → n ≡ none
  none_told f = by_test (eqb n none) (λ t. eqb-true n none t) (λ t. absurd (f n (e ∙ rw t)))
