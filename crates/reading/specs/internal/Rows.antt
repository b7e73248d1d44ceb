-- Which rows of the table may fit a line, told by its first three bytes.
-- Assumes nothing.
use Rattle.std.specs.Prelude.{ℕ, Bool, ◌&&◌, eqb, get_or}
use Rattle.spelling.specs.Spellings.{pattern_of}

-- the spelling in row k begins with three bytes
abbrev pub begins_of : ℕ → ℕ → ℕ → ℕ → Bool
begins_of k x y z = eqb (get_or (pattern_of k) 0 46) x && eqb (get_or (pattern_of k) 1 46) y && eqb (get_or (pattern_of k) 2 46) z
