-- A text assembled into two lent banks: the answer and both banks afterwards, in every case.
-- Assumes nothing.
use Rattle.std.specs.Prelude.{ℕ, ◌+◌, ◌*◌, ◌/◌, ◌%◌, ◌≡◌, cond, ◌||◌, List, [], ◌∷◌, ◌++◌, eqb, ltb}
use Rattle.slices.specs.Checks.{Check, check, first_broken, NoneBroken, FirstViolation}
use Rattle.slices.specs.Sizes.{bad_bank}
use Rattle.isa.specs.declared.Instr.{Instr}
use Rattle.labels.specs.Lines.{lines_of, word_count}
use Rattle.labels.specs.Labels.{line_checks, label_checks}
use Rattle.words.specs.Program.{program_of, opcode_of, argument_of, bank_of}
use Rattle.assembling.specs.declared.Assembled.{Assembled}

-- what is asked of a text: 24 and 25 for each line, and "26 when more than 256 words result, checked last"
abbrev pub text_checks : List ℕ → List Check
text_checks t = line_checks (lines_of t) ++ (label_checks (lines_of t) ++ (check 26 0 (ltb 256 (word_count (lines_of t))) ∷ []))

-- what is asked of a call: first, "1 covers the banks"
abbrev pub assemble_checks : List ℕ → List ℕ → List ℕ → List Check
assemble_checks t ops args = check 1 0 (bad_bank ops || bad_bank args) ∷ text_checks t

-- the first rule that is broken, with its line: number + 256 × line, 0 for none
unfoldable pub fault_of : List ℕ → List ℕ → List ℕ → ℕ
fault_of t ops args = first_broken (assemble_checks t ops args)

-- the answer by the fault: number, line, and the words of a text without one
abbrev pub answer_by : ℕ → List ℕ → Assembled
answer_by fault t = cond (eqb fault 0) (0, 0, word_count (lines_of t)) (fault % 256, fault / 256, 0)

unfoldable pub answer_of : List ℕ → List ℕ → List ℕ → Assembled
answer_of t ops args = answer_by (fault_of t ops args) t

-- what a call leaves in a bank: a byte of each form, or, where it is refused, the bank as it was
abbrev pub bank_after : ℕ → (Instr → ℕ) → List ℕ → List ℕ → List ℕ
bank_after fault byte t bank = cond (eqb fault 0) (bank_of byte (program_of t)) bank

-- the whole outcome of a call: the answer, and both banks afterwards
pub record Assembles (t ops args : List ℕ) (r : Assembled) (ops' args' : List ℕ) : Type 0 where
  pub answers : r ≡ answer_of t ops args
  pub opcodes : ops' ≡ bank_after (fault_of t ops args) opcode_of t ops
  pub arguments : args' ≡ bank_after (fault_of t ops args) argument_of t args
  -- "every other call is refused by the first rule it breaks"
  pub checked : FirstViolation (assemble_checks t ops args) (r.0 + 256 * r.1)
  -- "and no lent byte changes"
  pub opcodes_kept : (NoneBroken (assemble_checks t ops args) → ⊥) → ops' ≡ ops
  pub arguments_kept : (NoneBroken (assemble_checks t ops args) → ⊥) → args' ≡ args
