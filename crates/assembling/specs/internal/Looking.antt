-- The look at a text for good banks.
-- Assumes nothing.
use Rattle.std.specs.Prelude.{ℕ, ◌≡◌, List, Result, Ok, Err}
use Rattle.slices.specs.Checks.{first_broken}
use Rattle.labels.specs.Lines.{lines_of, word_count}
use Rattle.words.specs.internal.Storing.{Ready}
use Rattle.assembling.specs.Assemble.{text_checks, answer_by}
use Rattle.assembling.specs.declared.Assembled.{Assembled}
use Rattle.assembling.specs.declared.Refusal.{Refusal}
use Rattle.assembling.specs.declared.Refusal.TheVariants.{BadLine, BadLabel, TooLong}

-- the first of the rules 24 to 26 that a text breaks, with its line
unfoldable pub text_fault : List ℕ → ℕ
text_fault t = first_broken (text_checks t)

-- the answer by a refusal
abbrev pub refused : Refusal → Assembled
refused (BadLine k) = (24, k, 0)
refused (BadLabel k) = (25, k, 0)
refused TooLong = (26, 0, 0)

-- a text that breaks none of them: its words are counted, and it may be stored
pub record Accepted (t : List ℕ) (count : ℕ) (addresses starts numbers : List ℕ) : Type 0 where
  pub none : text_fault t ≡ 0
  pub counted : count ≡ word_count (lines_of t)
  pub ready : Ready t addresses starts numbers

-- one that breaks a rule
pub record Refuses (t : List ℕ) (answer : Assembled) : Type 0 where
  pub some : text_fault t ≡ 0 → ⊥
  pub answers : answer ≡ answer_by (text_fault t) t

abbrev pub Looked : List ℕ → Result ℕ Refusal → List ℕ → List ℕ → List ℕ → Type 0
Looked t (Ok count) addresses starts numbers = Accepted t count addresses starts numbers
Looked t (Err refusal) addresses starts numbers = Refuses t (refused refusal)
