-- A draft of settled words, and what admission's answer on it tells.
-- Assumes nothing.
use Rattle.std.specs.Prelude.{ℕ, ◌≤◌, ◌≡◌, List, Option, None, Some}
use Rattle.model.specs.Step.{Program}
use Rattle.rules.specs.Grounds.{max_list_size}
use Rattle.rules.specs.Sheet.{routines}
use Rattle.slices.specs.Parts.{padded}
use Rattle.slices.specs.Sizes.{bank_size}
use Rattle.drawings.specs.Drawn.{listed, Drawn}
use Rattle.drawings.specs.internal.Drafts.{rank, sheet_of, list_of}
use Rattle.drawings.specs.internal.Impossible.{NoneAdmitted}
use Rattle.drawings.specs.internal.Visits.{Settled}

-- the buffers and the number of routines after a draft
pub record Draft (p : Program) (s l : List ℕ) (n : ℕ) : Type 0 where
  pub words : List ℕ
  pub settled : Settled p words
  pub count : n ≡ rank words bank_size
  pub few : n ≤ 64
  pub sheet_is : s ≡ sheet_of words
  pub list_is : l ≡ padded max_list_size (list_of words)

-- no routines: nothing can be admitted, and there is no draft, or one without a routine
pub record Drafted (p : Program) (s l : List ℕ) (routines : Option ℕ) : Type 0 where
  pub none : routines ≡ None → NoneAdmitted p
  pub empty : routines ≡ Some 0 → NoneAdmitted p
  pub some : (n : ℕ) → routines ≡ Some n → Draft p s l n

-- a draft that is a drawing
pub record Accepted (p : Program) (s l : List ℕ) (n : ℕ) : Type 0 where
  pub list : List ℕ
  pub drawn : Drawn p s list
  pub buffer_is : l ≡ padded max_list_size list
  pub count : n ≡ routines (listed p s list)
  pub few : n ≤ 64

-- the routines of what was drafted, where it is a drawing
pub record Judged (p : Program) (s l : List ℕ) (drafted routines : Option ℕ) : Type 0 where
  pub same : (n : ℕ) → routines ≡ Some n → drafted ≡ Some n
  pub accepts : (n : ℕ) → routines ≡ Some n → Accepted p s l n
  pub refuses : routines ≡ None → NoneAdmitted p
