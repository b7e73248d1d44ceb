-- The lines of a text. 02 [1]: "One instruction stands on a line, .. optionally after a label of 1 to 12 letters (case counts), a colon and a
-- space. Lines count from 1 and end in a line feed, which the last may lack."
-- Assumes nothing.
use Rattle.std.specs.Prelude.{ℕ, ◌+◌, Bool, true, cond, not, ◌&&◌, List, [], ◌∷◌, eqb, leb, length, get_or, take, drop, Option, Some, None}
use Rattle.reading.specs.Reading.{matched_of}
use Rattle.spelling.specs.Spellings.{row_count, forms_of}
use Rattle.spelling.specs.Words.{word_length}
use Rattle.reading.specs.declared.Fit.{Fit}

-- one byte more at the front of the first line
abbrev pub on_first : ℕ → List (List ℕ) → List (List ℕ)
on_first c [] = (c ∷ []) ∷ []
on_first c (l ∷ ls) = (c ∷ l) ∷ ls

-- the lines of a text: 10 is the line feed. An empty text has no line
unfoldable pub lines_of : List ℕ → List (List ℕ)
lines_of [] = []
lines_of (c ∷ t) = cond (eqb c 10) ([] ∷ lines_of t) (on_first c (lines_of t))

-- how many letters a line's label has, 0 for none: 58 is the colon, 32 the space
unfoldable pub label_size : List ℕ → ℕ
label_size l =
    cond (leb 1 (word_length true l) && leb (word_length true l) 12 && eqb (get_or l (word_length true l) 0) 58 && eqb (get_or l (word_length true l + 1) 0) 32) (word_length true l) 0

abbrev pub label_of : List ℕ → List ℕ
label_of l = take (label_size l) l

abbrev pub is_labelled : List ℕ → Bool
is_labelled l = not (eqb (label_size l) 0)

-- the row that a line fits behind its label
unfoldable pub line_of : List ℕ → Option Fit
line_of l = matched_of l (cond (eqb (label_size l) 0) 0 (label_size l + 2)) 0 row_count

-- how many words a line stands for, whatever its addresses; 0 where it is no instruction or macro
abbrev pub size_in : Option Fit → ℕ
size_in (Some f) = length (forms_of f.row f.places 0 0)
size_in None = 0

unfoldable pub size_of : List ℕ → ℕ
size_of l = size_in (line_of l)

-- how many words lines stand for
unfoldable pub word_count : List (List ℕ) → ℕ
word_count [] = 0
word_count (l ∷ ls) = size_of l + word_count ls

-- the name in the place of a line's address, empty for none
abbrev pub name_in : Option Fit → List ℕ → List ℕ
name_in (Some f) l = take f.places.size (drop f.places.from l)
name_in None l = []

unfoldable pub name_of : List ℕ → List ℕ
name_of l = name_in (line_of l) l

abbrev pub is_naming : List ℕ → Bool
is_naming l = not (eqb (length (name_of l)) 0)
