-- Readings one behind another, and what is known where they got something.
-- Assumes nothing.
use Prim.Native.Nat.{ℕ}
use native.Mathlib.Omega.{arith}
use mathlib.Core.Path.{◌≡◌, refl, ap, ◌∙◌}
use mathlib.Core.Bool.{Bool, true, false, cond}
use mathlib.Core.List.{List}
use Rattle.std.specs.Prelude.{Result, Err, IsErrAnd}
use Rattle.std.proofs.lemmas.Result.{err_from_is_err_and}
use Rattle.groups.specs.Fields.{Read, got, refused, and_then}

pub not_got {ℓ} : {A : Type 0} {X : Type ℓ} {q : ℕ} {from : List ℕ} {a : A} {rest : List ℕ} → refused q from ≡ got a rest → X
not_got e = absurd (let z : ◌≡◌ {A = ℕ} 0 1 = cc in omega arith)

-- where two readings one behind the other got something, each did
pub record Came {A B : Type 0} (r : Read A) (next : A → List ℕ → Read B) (b : B) (rest : List ℕ) : Type 0 where
  pub value : A
  pub left : List ℕ
  pub first : r ≡ got value left
  pub second : next value left ≡ got b rest

pub came : {A B : Type 0} (r : Read A) (next : A → List ℕ → Read B) {b : B} {rest : List ℕ} → and_then r next ≡ got b rest → Came r next b rest
came (got a left) next e = record { value = a; left = left; first = refl; second = e }
came (refused q from) next e = not_got e

-- a choice between something and a refusal
pub chosen : {A : Type 0} (t : Bool) {r : Read A} (q : ℕ) (from : List ℕ) {a : A} {rest : List ℕ} → cond t r (refused q from) ≡ got a rest → (t ≡ true) × (r ≡ got a rest)
chosen true q from e = (refl, e)
chosen false q from e = not_got e

pub then_then : {A B C : Type 0} (r : Read A) (f : A → List ℕ → Read B) (g : B → List ℕ → Read C)
    → and_then (and_then r f) g ≡ and_then r (λ a rest. and_then (f a rest) g)
then_then (got a rest) f g = refl
then_then (refused q from) f g = refl

pub then_same : {A B : Type 0} (r : Read A) (f g : A → List ℕ → Read B) → ((a : A) (rest : List ℕ) → f a rest ≡ g a rest) → and_then r f ≡ and_then r g
then_same (got a rest) f g h = h a rest
then_same (refused q from) f g h = refl

pub then_got : {A : Type 0} (r : Read A) → and_then r got ≡ r
then_got (got a rest) = refl
then_got (refused q from) = refl

-- what `?` hands on is the refusal that it met
pub handed_on : {T E : Type 0} (r : Result T E) {e : E} → IsErrAnd r (λ y. y ≡ e) → r ≡ Err e
handed_on r h = let p = err_from_is_err_and r h in p.1 ∙ ap Err p.2
