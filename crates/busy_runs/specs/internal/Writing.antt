-- The page as the code writes it: the lines of the selected addresses, one behind another.
-- Assumes nothing.
use Rattle.std.specs.Prelude.{ℕ, ◌≤◌, ◌≡◌, List, [], ◌∷◌, length}
use Rattle.pages.specs.Page.{page, write_of}
use Rattle.model.specs.Step.{Program, instr_at}
use Rattle.printing.specs.Print.{text_of, text_width}
use Rattle.ranking.specs.internal.Selection.{ranked_by}
use Rattle.busy_runs.specs.Lines.{lines_of}

abbrev pub program : List ℕ → List ℕ → Program
program ops args = record { opcodes = ops; arguments = args }

-- the instruction at an address has room for its text, since its fields are bytes
abbrev pub Narrow : Program → ℕ → Type 0
Narrow p a = length (text_of (instr_at p a)) ≤ text_width

abbrev pub AllNarrow : Program → List ℕ → Type 0
AllNarrow p [] = Unit {0}
AllNarrow p (a ∷ l) = Narrow p a × AllNarrow p l

-- a page and its lines, as they were written on a buffer from its beginning
pub record PageWritten (p : Program) (counters page₀ : List ℕ) (lines : ℕ) (page' : List ℕ) : Type 0 where
  pub bytes : page' ≡ (write_of (lines_of p counters (ranked_by counters)) (page page₀ 0)).bytes
  pub lines_are : lines ≡ length (ranked_by counters)
  pub narrow : AllNarrow p (ranked_by counters)
