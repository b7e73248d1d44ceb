-- A row of numbers that are addresses. A run's executed ones are, since PC is a byte in the code.
-- Assumes nothing.
use Rattle.std.specs.Prelude.{ℕ, ◌<◌, List, [], ◌∷◌}
use Rattle.slices.specs.Sizes.{bank_size}

abbrev pub Addresses : List ℕ → Type 0
Addresses [] = Unit {0}
Addresses (a ∷ l) = (a < bank_size) × Addresses l
