-- Two functions of numbers that agree below a bound, by one computed test of their tables; variables may stand in both.
-- Assumes nothing.
use Prim.Native.Nat.{ℕ, zero, suc, ◌+◌, ◌<◌}
use native.Mathlib.Omega.{arith}
use native.Mathlib.Nat.{add-zero, zero-add, add-suc, suc-add}
use mathlib.Core.Path.{◌≡◌, sym, ◌∙◌}
use mathlib.Core.List.{List, [], ◌∷◌}

abbrev pub tabulate {ℓ} : {A : Type ℓ} → (ℕ → A) → ℕ → ℕ → List A
tabulate f i zero = []
tabulate f i (suc n) = f i ∷ tabulate f (suc i) n

-- two functions whose tables from i on are equal agree there
same_from {ℓ} : {A : Type ℓ} (f g : ℕ → A) (i n : ℕ) → tabulate f i n ≡ tabulate g i n → (k : ℕ) → k < n → f (i + k) ≡ g (i + k)
same_from f g i zero e k h = absurd (omega arith)
same_from f g i (suc n) e zero h = rw (add-zero i) (cc)
same_from f g i (suc n) e (suc k) h =
    let t : tabulate f (suc i) n ≡ tabulate g (suc i) n = cc in
    let q : i + suc k ≡ suc i + k = add-suc i k ∙ sym (suc-add i k) in
    rw q (same_from f g (suc i) n t k (omega arith))

pub same_below {ℓ} : {A : Type ℓ} (f g : ℕ → A) (n : ℕ) → tabulate f 0 n ≡ tabulate g 0 n → (k : ℕ) → k < n → f k ≡ g k
same_below f g n e k h = rw zero-add at (same_from f g 0 n e k h)
