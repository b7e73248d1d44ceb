-- What the exports for listings as text promise.
-- Assumes nothing.
use Rattle.std.specs.Prelude.{ℕ, ◌≤◌, ◌<◌, ◌≡◌, true, false, ◌||◌, List, [], ◌∷◌, length, take}
use Rattle.slices.specs.Lists.{mapped}
use Rattle.slices.specs.Sizes.{bad_bank}
use Rattle.isa.specs.Encode.{Valid}
use Rattle.isa.specs.declared.Instr.{Instr}
use Rattle.numbers.specs.Numbers.{fields_of, instr_of}
use Rattle.numbers.specs.declared.Fields.{Fields}
use Rattle.reading.specs.Reading.{read_of, fits}
use Rattle.spelling.specs.Spellings.{row_count}
use Rattle.printing.specs.Print.{text_of, Prints}
use Rattle.printing.specs.Shown.{shown_of}
use Rattle.printing.specs.declared.Printed.{Printed}
use Rattle.labels.specs.Lines.{lines_of, word_count}
use Rattle.words.specs.Program.{forms_from, program_of, opcode_of, argument_of, bank_of}
use Rattle.assembling.specs.Assemble.{fault_of, answer_of, bank_after, Assembles}
use Rattle.assembling.specs.declared.Assembled.{Assembled}

-- a text assembles to forms: whatever banks of 256 bytes are lent, the answer is their number, and both banks hold their bytes, 00 behind them
pub record AssemblesTo (t : List ℕ) (is : List Instr) : Type 0 where
  pub answers : (ops args : List ℕ) → bad_bank ops || bad_bank args ≡ false → answer_of t ops args ≡ (0, 0, length is)
  pub opcodes : (ops args : List ℕ) → bad_bank ops || bad_bank args ≡ false → bank_after (fault_of t ops args) opcode_of t ops ≡ bank_of opcode_of is
  pub arguments : (ops args : List ℕ) → bad_bank ops || bad_bank args ≡ false → bank_after (fault_of t ops args) argument_of t args ≡ bank_of argument_of is

-- a valid form whose immediate or address is a byte
abbrev pub Printable : Instr → Type 0
Printable i = Valid i × ((fields_of i).5 < 256)

abbrev pub AllPrintable : List Instr → Type 0
AllPrintable [] = Unit {0}
AllPrintable (i ∷ is) = Printable i × AllPrintable is

-- a text whose lines are the texts of printable forms, up to 256 of them, assembles to those forms, "with R0 in any field that its mnemonic
-- doesn't show"
abbrev pub ReadsPrinted : List ℕ → Type 0
ReadsPrinted t = (is : List Instr) → AllPrintable is → length is ≤ 256 → lines_of t ≡ mapped text_of is → AssemblesTo t (mapped shown_of is)

-- a line is read in one way only: no line fits two rows of the table
abbrev pub OneRow : Type 0
OneRow = (line : List ℕ) (start j k : ℕ) → j < row_count → k < row_count → fits line (read_of line start j) ≡ true → fits line (read_of line start k) ≡ true → j ≡ k

-- every form of a list is valid
abbrev pub AllValid : List Instr → Type 0
AllValid [] = Unit {0}
AllValid (i ∷ is) = Valid i × AllValid is

-- the answer to an instruction to be printed
pub record PrintedAs (x : Fields) (r : Printed) : Type 0 where
  pub prints : Prints (instr_of x) r
  -- "Printing a form and assembling it gives that form, with R0 in any field that its mnemonic doesn't show"
  pub reads_back : r.0 ≡ 0 → AssemblesTo (take r.1 r.2) (shown_of (instr_of x) ∷ [])

-- the whole outcome of a text to be assembled into two banks
pub record AssembledAs (t ops args : List ℕ) (r : Assembled) (ops' args' : List ℕ) : Type 0 where
  pub assembles : Assembles t ops args r ops' args'
  pub reads_printed : ReadsPrinted t
  pub one_row : OneRow
  -- the forms of the lines before a line are as many as the words counted, so a label's address is that of its line's first form; and all words
  -- counted are stored
  pub counted : (n : ℕ) → length (forms_from (lines_of t) (take n (lines_of t)) 0) ≡ word_count (take n (lines_of t))
  pub all_counted : length (program_of t) ≡ word_count (lines_of t)
  -- every word is the encoding of a valid form: none is 00 for want of one
  pub valid : AllValid (program_of t)
