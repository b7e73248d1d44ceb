-- A busy run (02 [3]) as numbers and lent memory.
-- Assumes nothing.
use Rattle.std.specs.Prelude.{ℕ, ◌≡◌, List}
use Rattle.model.specs.Run.{Call}
use Rattle.run_numbers.specs.Runs.{run_numbers}
use Rattle.busy_runs.specs.Busy.{Records, records, BusyOutcome, BusyPromise}
use Rattle.busy.specs.declared.BusyNumbers.{BusyNumbers}

-- the numbers of a run's answer and state, and the lines of the page
abbrev pub busy_numbers : BusyOutcome → BusyNumbers
busy_numbers o = (run_numbers o.run.answer o.run.state, o.lines)

-- the whole outcome of a busy run's call, as numbers and lent memory, and what is promised of it
pub record BusyNumbered (c : Call) (k : Records) (r : BusyNumbers) (ram stack roll counters page : List ℕ) : Type 0 where
  pub outcome : BusyOutcome
  pub promise : BusyPromise c k outcome
  pub report : r ≡ busy_numbers outcome
  pub ram_left : ram ≡ outcome.run.ram
  pub stack_left : stack ≡ outcome.run.stack
  pub roll_left : roll ≡ outcome.run.roll
  pub records_left : records counters page ≡ outcome.records
