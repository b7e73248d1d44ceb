-- Numbers in the columns of a page, as 02 [3] has them: a text aligned at the right, and a byte in hexadecimal.
-- Assumes nothing.
use Rattle.std.specs.Prelude.{ℕ, ◌+◌, ◌-◌, ◌/◌, ◌%◌, cond, List, [], ◌∷◌, ◌++◌, ltb, length, replicate}

-- spaces before a text fill its columns: 32 is the code of a space
unfoldable pub right_aligned : ℕ → List ℕ → List ℕ
right_aligned width t = replicate (width - length t) 32 ++ t

-- 01: "Hexadecimal digits that are printed are 0 to 9 and A to F": 48 is the code of "0", 65 that of "A"
abbrev pub hex_digit : ℕ → ℕ
hex_digit n = cond (ltb n 10) (48 + n) (65 + (n - 10))

-- two of them
abbrev pub hex_of : ℕ → List ℕ
hex_of x = hex_digit (x / 16) ∷ hex_digit (x % 16) ∷ []
