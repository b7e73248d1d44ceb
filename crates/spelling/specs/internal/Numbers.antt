-- Numbers as answers.
-- Assumes nothing.
use Rattle.std.specs.Prelude.{ℕ, cond, ◌&&◌, eqb, ltb, Option, Some, None}
use Rattle.spelling.specs.Words.{digit_of}

-- none from a bound on, since there the definitions have the bound itself for none
abbrev pub if_below : ℕ → ℕ → Option ℕ
if_below most n = cond (ltb n most) (Some n) None

-- the register that a word of n bytes b0, b1, .. is: 82 is "R"
abbrev pub register_of : ℕ → ℕ → ℕ → Option ℕ
register_of n b0 b1 = cond (eqb n 2 && eqb b0 82 && ltb (digit_of b1) 4) (Some (digit_of b1)) None
