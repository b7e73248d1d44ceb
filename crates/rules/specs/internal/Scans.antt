-- A scan as code computes it: it stops at the first place where a rule is broken.
-- Assumes nothing.
use Rattle.std.specs.Prelude.{ℕ, zero, suc, List}
use Rattle.slices.specs.Checks.{Check, first_broken}

-- the first answer that is not 0
unfoldable pub or_else : ℕ → ℕ → ℕ
or_else zero n = n
or_else (suc k) n = suc k

-- the n places from i on, lowest first
unfoldable pub scan_of : (ℕ → List Check) → ℕ → ℕ → ℕ
scan_of f i zero = 0
scan_of f i (suc n) = or_else (first_broken (f i)) (scan_of f (suc i) n)
