-- What the desk's answer promises of an input and the lent buffer: the text, all of it, and that a run of an admitted listing ends in one of the
-- two stops that 01 has the desk print.
-- Assumes nothing.
use Rattle.std.specs.Prelude.{ℕ, ◌≤◌, ◌≡◌, List, ◌++◌, length, drop, Result, Ok, Err}
use Rattle.model.specs.declared.Ran.{Ran}
use Rattle.model.specs.declared.Refusal.{Refusal}
use Rattle.model.specs.declared.Stop.{Stop}
use Rattle.model.specs.declared.Stop.TheVariants.{Halted, Spent, Unsettled, Full}
use Rattle.rules.specs.Grounds.{admit_of}
use Rattle.rules.specs.Sheet.{Listing}
use Rattle.report.specs.Desk.{listing_in, ran_of, desk_text, answer_room}
use Rattle.pages.specs.Page.{page, write_of}
use Rattle.report.specs.Printed.{Printed}

-- "the other stop word is `spent`": the desk prints no third one
abbrev pub DeskStop : Stop → Type 0
DeskStop Halted = Unit {0}
DeskStop Spent = Unit {0}
DeskStop Unsettled = ⊥
DeskStop Full = ⊥

-- nor is the run refused
abbrev pub HaltedOrSpent : Result Ran Refusal → Type 0
HaltedOrSpent (Err x) = ⊥
HaltedOrSpent (Ok r) = DeskStop r.stop

-- an admitted listing's run is halted or spent
abbrev pub RunEnds : Listing → Type 0
RunEnds L = admit_of L ≡ 0 → HaltedOrSpent (ran_of L.program.opcodes L.program.arguments).answer

-- what an answer of n bytes leaves in a lent buffer
pub record Answered (input before after : List ℕ) (n : ℕ) : Type 0 where
  -- the text from the buffer's beginning, as far as there is room, and behind it what was there
  pub text : page after n ≡ write_of (desk_text input) (page before 0)
  pub within : n ≤ length after
  -- where there is room for any answer, n bytes are the whole text
  pub whole : answer_room ≤ length before
      → (n ≡ length (desk_text input)) × (after ≡ desk_text input ++ drop (length (desk_text input)) before)
  pub ends : RunEnds (listing_in input)
  -- the lines are 01's
  pub printed : Printed
