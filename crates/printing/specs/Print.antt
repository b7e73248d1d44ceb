-- The text of a form. 02 [1]: "spelled as in 003 with small mnemonics"; "printing uses decimal"; "22 and 23 cover a form to be printed too".
-- Assumes nothing.
use Rattle.std.specs.Prelude.{ℕ, ◌-◌, ◌≤◌, ◌≡◌, cond, ◌||◌, List, [], ◌∷◌, ◌++◌, eqb, length, replicate}
use Rattle.slices.specs.Checks.{FirstViolation}
use Rattle.pages.specs.Text.{decimal}
use Rattle.isa.specs.Encode.{encode_checks, encode_of, number_of}
use Rattle.isa.specs.declared.Instr.{Instr}
use Rattle.numbers.specs.Numbers.{fields_of}
use Rattle.numbers.specs.declared.Fields.{Fields}
use Rattle.spelling.specs.Spellings.{pattern_of, row_with}
use Rattle.printing.specs.declared.Printed.{Printed}

-- R0 to R3: 82 is "R"
abbrev pub register : ℕ → List ℕ
register r = 82 ∷ decimal r

-- what is printed for a byte of a spelling, X, Y, Z, # or @ standing for fields: the form's d, a and b, and its immediate or address
unfoldable pub shown_at : Fields → ℕ → List ℕ
shown_at x c =
    cond (eqb c 88) (register x.1) (cond (eqb c 89) (register x.2) (cond (eqb c 90) (register x.4)
    (cond (eqb c 35 || eqb c 64) (decimal x.5) (c ∷ []))))

unfoldable pub filled : List ℕ → Fields → List ℕ
filled [] x = []
filled (c ∷ p) x = shown_at x c ++ filled p x

-- the row of a form's spelling
abbrev pub spelling_row : Fields → ℕ
spelling_row x = row_with x.0 x.3

-- the text of a form: its spelling, filled with its fields
unfoldable pub text_of : Instr → List ℕ
text_of i = filled (pattern_of (spelling_row (fields_of i))) (fields_of i)

-- the room for a text: 02 [3], "the instruction's text left-aligned in 23"
abbrev pub text_width : ℕ
text_width = 23

-- a text with spaces behind it
abbrev pub columns : List ℕ → List ℕ
columns t = t ++ replicate (text_width - length t) 32

-- an answer by 01's number: 0 and the text, or the number and no text
abbrev pub answer : ℕ → List ℕ → Printed
answer n t = cond (eqb n 0) (0, length t, columns t) (n, 0, columns [])

-- a form printed: refused by the number by which encoding refuses it
unfoldable pub printed_of : Instr → Printed
printed_of i = answer (number_of (encode_of i)) (text_of i)

-- the answer to a form to be printed
pub record Prints (i : Instr) (r : Printed) : Type 0 where
  pub rule : r ≡ printed_of i
  -- "22 and 23 cover a form to be printed too": printing refuses what encoding refuses, by the same number
  pub as_encoding : r.0 ≡ number_of (encode_of i)
  pub checked : FirstViolation (encode_checks i) r.0
  -- the text has room
  pub short : length (text_of i) ≤ text_width
