-- A function applied to each element of a list, the sum of a list of numbers, and lists of bytes.
-- Assumes nothing.
use Rattle.std.specs.Prelude.{ℕ, ◌+◌, ◌<◌, List, [], ◌∷◌, get_or}

abbrev pub mapped : {A B : Type 0} → (A → B) → List A → List B
mapped f [] = []
mapped f (x ∷ l) = f x ∷ mapped f l

abbrev pub total_of : List ℕ → ℕ
total_of [] = 0
total_of (x ∷ l) = x + total_of l

-- a lent slice of bytes
abbrev pub Bytes : List ℕ → Type 0
Bytes l = (i : ℕ) → get_or l i 0 < 256
