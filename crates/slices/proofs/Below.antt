-- A rule for every number below a bound, by one test that is computed over all of them.
-- Assumes nothing.
use mathlib.Core.Path.{◌≡◌, refl}
use mathlib.Core.Bool.{Bool, true, false, ◌&&◌}
use Prim.Native.Nat.{ℕ, zero, suc, ◌<◌, ◌≤◌}
use native.Mathlib.Nat.{le_of_suc-le-suc, not-suc-le-zero}
use lib.Arith.{lt_of_le-ne}
use lib.Dec.{eqb}
use borrow.Author.Tests.{eqb-true, eqb-false}
use Rattle.slices.proofs.Bools.{both}

-- the test passes at each of 0, 1, .., n - 1
abbrev pub all_below : (ℕ → Bool) → ℕ → Bool
all_below p zero = true
all_below p (suc n) = p n && all_below p n

-- k ≤ n: it is n, or below n
last_or_below : (p : ℕ → Bool) (n k : ℕ) → k ≤ n → p n ≡ true → (k < n → p k ≡ true) → (t : Bool) → eqb k n ≡ t → p k ≡ true
last_or_below p n k l last below true e = rw (eqb-true k n e) last
last_or_below p n k l last below false e = below (lt_of_le-ne l (eqb-false k n e))

pub at : (p : ℕ → Bool) (n : ℕ) → all_below p n ≡ true → (k : ℕ) → k < n → p k ≡ true
at p zero h k l = absurd (not-suc-le-zero l)
at p (suc n) h k l =
    let t = both (p n) (all_below p n) h in
    last_or_below p n k (le_of_suc-le-suc l) t.0 (λ m. at p n t.1 k m) (eqb k n) refl
