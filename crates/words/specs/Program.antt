-- The words of a text: the forms that its lines stand for, and their bytes in the two banks.
-- 02 [1]: "The assembler fills both banks, words after the last line being 00."
-- Assumes nothing.
use Rattle.std.specs.Prelude.{ℕ, ◌+◌, cond, List, [], ◌∷◌, ◌++◌, eqb, length, take, drop, Option, Some, None, Ok, Err}
use Rattle.slices.specs.Lists.{mapped}
use Rattle.slices.specs.Parts.{padded}
use Rattle.slices.specs.Sizes.{bank_size}
use Rattle.isa.specs.Encode.{Encoded, encode_of}
use Rattle.isa.specs.declared.Instr.{Instr}
use Rattle.spelling.specs.Spellings.{forms_of}
use Rattle.reading.specs.declared.Fit.{Fit}
use Rattle.spelling.specs.declared.Places.{Places}
use Rattle.labels.specs.Lines.{lines_of, line_of, size_of}
use Rattle.labels.specs.Labels.{address_of}

-- the address @ of a line: the number there, or, "A label may stand for an address", the address of the label named there
abbrev pub target_by : List (List ℕ) → List ℕ → ℕ → ℕ
target_by all name number = cond (eqb (length name) 0) number (address_of name all)

abbrev pub target_of : List (List ℕ) → List ℕ → Places → ℕ
target_of all l p = target_by all (take p.size (drop p.from l)) p.addr

-- the forms of a line that stands at an address
abbrev pub forms_in : Option Fit → List (List ℕ) → List ℕ → ℕ → List Instr
forms_in (Some f) all l at = forms_of f.row f.places (target_of all l f.places) at
forms_in None all l at = []

-- the forms of lines one behind another, from an address on
unfoldable pub forms_from : List (List ℕ) → List (List ℕ) → ℕ → List Instr
forms_from all [] at = []
forms_from all (l ∷ ls) at = forms_in (line_of l) all l at ++ forms_from all ls (at + size_of l)

-- the forms of a text
unfoldable pub program_of : List ℕ → List Instr
program_of t = forms_from (lines_of t) (lines_of t) 0

-- the opcode byte and the argument byte of a form
abbrev pub opcode_from : Encoded → ℕ
opcode_from (Ok bytes) = bytes.0
opcode_from (Err refusal) = 0

abbrev pub argument_from : Encoded → ℕ
argument_from (Ok bytes) = bytes.1
argument_from (Err refusal) = 0

abbrev pub opcode_of : Instr → ℕ
opcode_of i = opcode_from (encode_of i)

abbrev pub argument_of : Instr → ℕ
argument_of i = argument_from (encode_of i)

-- a bank with a byte of each form, 00 behind them
abbrev pub bank_of : (Instr → ℕ) → List Instr → List ℕ
bank_of byte is = padded bank_size (mapped byte is)
