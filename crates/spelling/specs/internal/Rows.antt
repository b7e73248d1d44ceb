-- The table as the code holds it, one spelling behind another with dots up to 16.
-- Assumes nothing.
use Rattle.std.specs.Prelude.{ℕ, zero, suc, List, [], ◌∷◌, ◌++◌}
use Rattle.spelling.specs.Spellings.{spellings}

-- 16 bytes: a spelling and dots behind it, 46 being the dot
unfoldable pub pad : ℕ → List ℕ → List ℕ
pad zero l = []
pad (suc n) [] = 46 ∷ pad n []
pad (suc n) (c ∷ l) = c ∷ pad n l

unfoldable pub flatten : List (List ℕ) → List ℕ
flatten [] = []
flatten (s ∷ ss) = pad 16 s ++ flatten ss

unfoldable pub table_bytes : List ℕ
table_bytes = flatten spellings
