-- An observed run: the run itself, its counters, and a log of its addresses.
-- Assumes nothing.
use Rattle.std.specs.Prelude.{ℕ, ◌+◌, ◌<◌, ◌≡◌, List, get_or, set}
use Rattle.slices.specs.Sizes.{bank_size}
use Rattle.pages.specs.Page.{Page, page, put_of, write_of}
use Rattle.model.specs.Run.{Outcome, reported, run_of}
use Rattle.model.specs.Step.{Setting, Machine}
use Rattle.executions.specs.Executed.{executed_of, counters_of}
use Rattle.executions.specs.internal.Addresses.{Addresses}

-- an address counted once more, and put into the log where there is room
pub record Noted (a : ℕ) (counters : List ℕ) (log : Page) (counters' : List ℕ) (log' : Page) : Type 0 where
  pub counted : counters' ≡ set counters a (get_or counters a 0 + 1)
  pub logged : log' ≡ put_of a log
  -- it is a byte
  pub address : a < bank_size

-- o is what the run reports and leaves, counters and log what was recorded; log₀ is the log as it was lent
pub record Observed (x : Setting) (budget : ℕ) (m : Machine) (log₀ : List ℕ) (o : Outcome) (counters log : List ℕ) : Type 0 where
  pub ran : o ≡ reported (run_of x budget m)
  pub counted : counters ≡ counters_of (executed_of x budget m)
  -- as far as there is room; what lies behind is kept
  pub logged : log ≡ (write_of (executed_of x budget m) (page log₀ 0)).bytes
  pub addresses : Addresses (executed_of x budget m)
