-- How many numbers below a bound pass a test; the lowest that does.
-- Assumes nothing.
use Prim.Native.Nat.{ℕ, zero, suc, ◌+◌, ◌≤◌, ◌<◌}
use native.Mathlib.Omega.{arith}
use mathlib.Core.Path.{◌≡◌, sym, ◌∙◌}
use mathlib.Core.Logic.{◌≢◌}
use mathlib.Core.Bool.{Bool, true, false, cond}
use lib.Dec.{eqb}
use borrow.Author.Tests.{eqb-true, eqb-false}
use Rattle.slices.proofs.Bools.{by_test}
use Rattle.rules.specs.Grounds.{find}
use Rattle.rules.proofs.Tests.{absurd_bool}

pub find_low : (f : ℕ → Bool) (n i j : ℕ) → i ≤ j → j < i + n → f j ≡ true → find f i n ≤ j
unfolding find
find_low f zero i j h l e = absurd (omega arith)
find_low f (suc n) i j h l e =
    by_test (f i) (λ q. rw (q, find) h)
    (λ q.
    rw (q, find)
    (by_test (eqb i j) (λ s. absurd_bool (sym e ∙ (rw (eqb-true i j s) at q)))
    (λ s. let ne : i ≢ j = eqb-false i j s in find_low f n (suc i) j (omega arith) (omega arith) e)))

-- ---- how many numbers below n pass a test

abbrev pub count : (ℕ → Bool) → ℕ → ℕ
count f zero = 0
count f (suc n) = cond (f n) (suc (count f n)) (count f n)

pub count_within : (f : ℕ → Bool) (n : ℕ) → count f n ≤ n
count_within f zero = omega arith
count_within f (suc n) = let r = count_within f n in by_test (f n) (λ e. rw e (omega arith)) (λ e. rw e (omega arith))

pub count_mono : (f g : ℕ → Bool) (n : ℕ) → ((r : ℕ) → f r ≡ true → g r ≡ true) → count f n ≤ count g n
count_mono f g zero h = omega arith
count_mono f g (suc n) h =
    let r = count_mono f g n h in
    by_test (f n) (λ e. rw (e, h n e) (omega arith)) (λ e. by_test (g n) (λ q. rw (e, q) (omega arith)) (λ q. rw (e, q) r))

pub count_more : (f g : ℕ → Bool) (n r : ℕ) → ((x : ℕ) → f x ≡ true → g x ≡ true) → r < n → f r ≡ false → g r ≡ true → count f n < count g n
count_more f g zero r h l p q = absurd (omega arith)
count_more f g (suc n) r h l p q =
    by_test (eqb n r)
    (λ e. let s : n ≡ r = eqb-true n r e in
    let p' : f n ≡ false = rw s p in
    let q' : g n ≡ true = rw s q in
    let c = count_mono f g n h in
    rw (p', q') (omega arith))
    (λ e. let ne : n ≢ r = eqb-false n r e in
    let c = count_more f g n r h (omega arith) p q in
    by_test (f n) (λ t. rw (t, h n t) (omega arith)) (λ t. by_test (g n) (λ u. rw (t, u) (omega arith)) (λ u. rw (t, u) c)))
