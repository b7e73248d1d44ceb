-- 02 [3]: "The page has one line of exactly 34 characters and a line feed for each address executed".
-- Assumes nothing.
use Rattle.std.specs.Prelude.{ℕ, List, [], ◌∷◌, ◌++◌}
use Rattle.pages.specs.Columns.{right_aligned, hex_of}
use Rattle.pages.specs.Text.{decimal}
use Rattle.model.specs.Step.{Program, instr_at}
use Rattle.printing.specs.Print.{text_of, columns}
use Rattle.ranking.specs.Busier.{count_at}

-- "two hexadecimal digits, a space, the count right-aligned in 7, a space, the instruction's text left-aligned in 23", and the line feed: 32
-- and 10 are the codes of a space and a line feed
unfoldable pub line_of : Program → List ℕ → ℕ → List ℕ
line_of p counters a =
    hex_of a
    ++ ((32 ∷ right_aligned 7 (decimal (count_at counters a)))
    ++ ((32 ∷ columns (text_of (instr_at p a)))
    ++ (10 ∷ [])))

-- the lines of addresses, one behind another
unfoldable pub lines_of : Program → List ℕ → List ℕ → List ℕ
lines_of p counters [] = []
lines_of p counters (a ∷ l) = line_of p counters a ++ lines_of p counters l
