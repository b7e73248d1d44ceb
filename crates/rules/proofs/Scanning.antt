-- A scan that stops at the first place where a rule is broken, for any checks f and any number n of places. `Scanning f n i` is the invariant
-- of its loop: the places below i passed, so the whole scan is the scan of what is left. What it answers is the first broken check of all
-- places.
-- Assumes nothing.
use Prim.Native.Nat.{ℕ, zero, suc, ◌+◌, ◌-◌, ◌*◌, ◌<◌, ◌≤◌}
use native.Mathlib.Nat.{sub-eq-zero_of_le, sub-zero}
use native.Mathlib.Numerals.{add-one}
use native.Mathlib.Omega.{arith}
use mathlib.Core.Path.{◌≡◌, refl, sym, ap, ◌∙◌}
use mathlib.Core.List.{List, [], ◌∷◌, ◌++◌}
use Rattle.slices.proofs.Bools.{by_test}
use Rattle.slices.proofs.Checks.{Numbered, none_broken}
use Rattle.slices.specs.Checks.{Check, NoneBroken, first_broken}
use Rattle.rules.specs.Grounds.{each}
use Rattle.rules.specs.internal.Scans.{or_else, scan_of}
use Rattle.rules.proofs.CheckLists.{numbered_each, none_each}

-- ---- the first answer that is not 0

stays : (g rest : ℕ) → (g ≡ 0 → ⊥) → g ≡ or_else g rest
unfolding or_else
stays zero rest ne = absurd (ne refl)
stays (suc g) rest ne = refl

-- g was computed as the first answer: it is the whole answer, or the rest is
pub or_hit : {g n : ℕ} (rest : ℕ) → g ≡ n → (g ≡ 0 → ⊥) → g ≡ or_else n rest
or_hit {g} rest e ne = stays g rest ne ∙ ap (λ (k : ℕ). or_else k rest) e

pub or_pass : {g n r rest : ℕ} → g ≡ n → g ≡ 0 → r ≡ rest → r ≡ or_else n rest
unfolding or_else
or_pass e z q = rw (← e, z) q

-- ---- the loop

pub record Scanning (f : ℕ → List Check) (n i : ℕ) : Type 0 where
  pub within : i ≤ n
  pub left : scan_of f 0 n ≡ scan_of f i (n - i)

-- a scan of at least one place
scan_at : (f : ℕ → List Check) (i k m : ℕ) → k ≡ m + 1 → scan_of f i k ≡ or_else (first_broken (f i)) (scan_of f (i + 1) m)
unfolding scan_of
scan_at f i k m e = rw (e, add-one m, add-one i) refl

scan_step : {f : ℕ → List Check} {n i : ℕ} → Scanning f n i → i < n → scan_of f 0 n ≡ or_else (first_broken (f i)) (scan_of f (i + 1) (n - (i + 1)))
scan_step {f} {n} {i} s lt = s.left ∙ scan_at f i (n - i) (n - (i + 1)) (omega arith)

pub scan_start : {f : ℕ → List Check} {n : ℕ} → Scanning f n 0
scan_start {f} {n} = record { within = omega arith; left = rw sub-zero refl }

-- a place that is broken, with the answer g
pub scan_hit : {f : ℕ → List Check} {n i g : ℕ} → Scanning f n i → i < n → g ≡ first_broken (f i) → (g ≡ 0 → ⊥) → g ≡ scan_of f 0 n
scan_hit s lt e ne = or_hit _ e ne ∙ sym (scan_step s lt)

-- a place that passes
pub scan_pass : {f : ℕ → List Check} {n i g : ℕ} → Scanning f n i → i < n → g ≡ first_broken (f i) → g ≡ 0 → Scanning f n (i + 1)
scan_pass {f} {n} {i} s lt e z = record { within = omega arith; left = scan_step s lt ∙ sym (or_pass e z refl) }

pub scan_end : {f : ℕ → List Check} {n i : ℕ} → Scanning f n i → n ≤ i → 0 ≡ scan_of f 0 n
unfolding scan_of
scan_end {f} {n} {i} s ge = sym (s.left ∙ ap (λ (k : ℕ). scan_of f i k) (sub-eq-zero_of_le ge))

-- ---- the answer

pub first_append : (xs ys : List Check) → Numbered xs → or_else (first_broken xs) (first_broken ys) ≡ first_broken (xs ++ ys)
unfolding first_broken or_else
first_append [] ys p = refl
first_append (c ∷ xs) ys p =
    by_test c.broken
    (λ q. rw (q, first_broken) (sym (stays (c.number + 256 * c.place) _ (λ z. absurd (omega (arith, p.0, z))))))
    (λ q. rw (q, first_broken) (first_append xs ys p.1))

pub scan_each : (f : ℕ → List Check) → ((k : ℕ) → Numbered (f k)) → (i n : ℕ) → scan_of f i n ≡ first_broken (each f i n)
unfolding scan_of each first_broken
scan_each f p i zero = refl
scan_each f p i (suc n) = ap (or_else (first_broken (f i))) (scan_each f p (suc i) n) ∙ first_append (f i) (each f (suc i) n) (p i)

-- a scan that answers 0 found no place broken
pub scan_clear : (f : ℕ → List Check) → ((k : ℕ) → Numbered (f k)) → (n : ℕ) → scan_of f 0 n ≡ 0 → (k : ℕ) → k < n → NoneBroken (f k)
scan_clear f p n e k h =
    none_each f n 0 (none_broken (each f 0 n) (numbered_each f p 0 n) (sym (scan_each f p 0 n) ∙ e)) k (omega arith) (omega arith)
