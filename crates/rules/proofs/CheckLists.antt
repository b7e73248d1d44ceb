-- Lists of checks, one after the other and place by place.
-- Assumes nothing.
use mathlib.Core.Logic.{◌≢◌}
use mathlib.Core.List.{List, [], ◌∷◌, ◌++◌}
use Prim.Native.Nat.{ℕ, zero, suc, ◌+◌, ◌≤◌, ◌<◌}
use native.Mathlib.Omega.{arith}
use lib.Dec.{eqb}
use borrow.Author.Tests.{eqb-true, eqb-false}
use Rattle.slices.proofs.Bools.{by_test}
use Rattle.slices.proofs.Checks.{Numbered}
use Rattle.slices.specs.Checks.{Check, NoneBroken}
use Rattle.rules.specs.Grounds.{each}

pub numbered_append : (xs ys : List Check) → Numbered xs → Numbered ys → Numbered (xs ++ ys)
numbered_append [] ys p q = q
numbered_append (x ∷ xs) ys p q = (p.0, numbered_append xs ys p.1 q)

pub numbered_each : (f : ℕ → List Check) → ((k : ℕ) → Numbered (f k)) → (i n : ℕ) → Numbered (each f i n)
unfolding each
numbered_each f p i zero = tt
numbered_each f p i (suc n) = numbered_append (f i) (each f (suc i) n) (p i) (numbered_each f p (suc i) n)

pub none_append : (xs ys : List Check) → NoneBroken (xs ++ ys) → NoneBroken xs × NoneBroken ys
none_append [] ys p = (tt, p)
none_append (x ∷ xs) ys p = let q = none_append xs ys p.1 in ((p.0, q.0), q.1)

pub none_each : (f : ℕ → List Check) (n i : ℕ) → NoneBroken (each f i n) → (k : ℕ) → i ≤ k → k < i + n → NoneBroken (f k)
unfolding each
none_each f zero i p k h l = absurd (omega arith)
none_each f (suc n) i p k h l =
    let q = none_append (f i) (each f (suc i) n) p in
    by_test (eqb i k) (λ e. rw (← eqb-true i k e) q.0)
    (λ e. let ne : i ≢ k = eqb-false i k e in none_each f n (suc i) q.1 k (omega arith) (omega arith))

pub append_none : (xs ys : List Check) → NoneBroken xs → NoneBroken ys → NoneBroken (xs ++ ys)
append_none [] ys p q = q
append_none (x ∷ xs) ys p q = (p.0, append_none xs ys p.1 q)

pub each_none : (f : ℕ → List Check) (n i : ℕ) → ((k : ℕ) → i ≤ k → k < i + n → NoneBroken (f k)) → NoneBroken (each f i n)
unfolding each
each_none f zero i h = tt
each_none f (suc n) i h =
    append_none (f i) (each f (suc i) n) (h i (omega arith) (omega arith)) (each_none f n (suc i) (λ k l m. h k (omega arith) (omega arith)))
