-- A number counted from 1 as an answer: what an answer tells of the number, and the number of the answer.
-- Assumes nothing.
use Prim.Native.Nat.{ℕ, ◌≤◌}
use native.Mathlib.Omega.{arith}
use mathlib.Core.Path.{◌≡◌, refl, sym, ap, ◌∙◌}
use mathlib.Core.Bool.{Bool, true, false, not}
use lib.Dec.{eqb}
use borrow.Author.Tests.{eq-eqb, ne_eqb, eqb-true}
use Rattle.std.specs.Prelude.{Option, Some, None}
use Rattle.std.specs.Option.{is_some}
use Rattle.slices.proofs.Bools.{by_test}
use Rattle.labels.specs.internal.Search.{unless_zero}

pub some_number : {k n : ℕ} → k ≡ n → (n ≡ 0 → ⊥) → Some k ≡ unless_zero n
some_number {k} {n} e z = rw (ne_eqb n 0 z, e)

pub hit_number : {k n : ℕ} → 1 ≤ k → k ≡ n → Some k ≡ unless_zero n
hit_number h e = some_number e (λ z. omega arith)

pub no_number : {n : ℕ} → 0 ≡ n → None ≡ unless_zero n
no_number {n} e = rw (eq-eqb n 0 (sym e))

abbrev number_in : Option ℕ → ℕ
number_in (Some k) = k
number_in None = 0

in_unless : (n : ℕ) → number_in (unless_zero n) ≡ n
in_unless n = by_test (eqb n 0) (λ e. rw (eqb-true n 0 e)) (λ e. rw e)

no : true ≡ false → ⊥
no q = let z : ◌≡◌ {A = ℕ} 0 1 = cc in omega arith

pub none_there : {A : Type 0} (r : Option A) → ((x : A) → r ≡ Some x → ⊥) → r ≡ None
none_there (Some x) f = absurd (f x refl)
none_there None f = refl

rev : (b c : Bool) → not b ≡ not c → b ≡ c
rev true true e = refl
rev true false e = sym e
rev false true e = sym e
rev false false e = refl

module _ {r : Option ℕ} {n : ℕ} (e : r ≡ unless_zero n) where
  pub number_told : {k : ℕ} → r ≡ Some k → (k ≡ n) × (n ≡ 0 → ⊥)
  number_told {k} q =
      (ap number_in (sym q ∙ e) ∙ in_unless n, λ z. no (ap is_some (sym q ∙ e) ∙ ap (λ (m : ℕ). is_some (unless_zero m)) z))

  pub none_told : r ≡ None → 0 ≡ n
  none_told q = ap number_in (sym q ∙ e) ∙ in_unless n

module _ {r : Option ℕ} (n : ℕ) (e : r ≡ unless_zero n) where
  -- a test for none
  pub none_tested : {b : Bool} → is_some r ≡ not b → b ≡ eqb n 0
  none_tested {b} q = rev b (eqb n 0) (sym q ∙ (ap is_some e ∙ by_test (eqb n 0) (λ z. rw z) (λ z. rw z)))
