-- 02 [3]: a run that sets the counters and writes the page. What it is lent beside a run's own, its refusals, and all that it answers and leaves.
-- Assumes nothing.
use Rattle.std.specs.Prelude.{ℕ, ◌*◌, ◌≡◌, Bool, false, not, ◌||◌, List, ◌∷◌, ◌++◌, eqb, ltb, length, drop, Result, Ok, Err}
use Rattle.slices.specs.Checks.{Check, FirstViolation}
use Rattle.slices.specs.Lists.{total_of}
use Rattle.model.specs.Run.{Call, Outcome, Cause, cause, causes, first_cause, machine_of, reported, refused_of, run_of, call_of, answer_number, checks_of}
use Rattle.model.specs.declared.Ran.{Ran}
use Rattle.model.specs.declared.Refusal.{Refusal}
use Rattle.model.specs.declared.Refusal.TheVariants.{BadBank}
use Rattle.executions.specs.Executed.{executed_of, counters_of}
use Rattle.ranking.specs.Busier.{is_executed, busier}
use Rattle.ranking.specs.Ranking.{StrictOrder, In, Ranking}
use Rattle.busy_runs.specs.Lines.{line_of, lines_of}

-- what is lent beside a run's own: "A run may lend 256 counters of 32 bits", and the page's buffer
pub record Records : Type 0 where
  pub counters : List ℕ
  pub page : List ℕ

abbrev pub records : List ℕ → List ℕ → Records
records counters page = record { counters = counters; page = page }

-- all that a busy run answers and leaves: a run's own, "reports its lines", counters and page
pub record BusyOutcome : Type 0 where
  pub run : Outcome
  pub lines : ℕ
  pub records : Records

abbrev pub busy_outcome : Outcome → ℕ → Records → BusyOutcome
busy_outcome o n k = record { run = o; lines = n; records = k }

-- ---- refusals

-- "Counters other than 256 in number, or a page buffer under 8,960 bytes, are refused as 17"
abbrev pub counters_number : ℕ
counters_number = 256

abbrev pub page_size : ℕ
page_size = 8960

abbrev pub bad_records : Records → Bool
bad_records k = not (eqb (length k.counters) counters_number) || ltb (length k.page) page_size

-- beside a run's own causes; 17 is the lowest of them
abbrev pub busy_causes : Call → Records → List Cause
busy_causes c k = cause BadBank (bad_records k) ∷ causes c

unfoldable pub busy_refusal_of : Call → Records → Result (Unit {0}) Refusal
busy_refusal_of c k = first_cause (busy_causes c k)

abbrev pub busy_checks : Call → Records → List Check
busy_checks c k = checks_of (busy_causes c k)

-- ---- a busy run that is made

-- the addresses executed in the run
abbrev pub executed : Call → List ℕ
executed c = executed_of c.setting c.budget (machine_of c)

-- the steps that an answer reports
abbrev pub steps_of : Result Ran Refusal → ℕ
steps_of (Err r) = 0
steps_of (Ok r) = r.steps

pub record BusyPage (c : Call) (counters page₀ : List ℕ) (lines : ℕ) (page : List ℕ) : Type 0 where
  -- the addresses of the lines
  pub addresses : List ℕ
  -- "Largest count first, equal counts by lower address": a strict total order
  pub order : StrictOrder (busier counters)
  -- exactly those with a count, each once, in that order; and there is no other such list
  pub ranking : Ranking (busier counters) (is_executed counters) addresses
  pub only_one : (l : List ℕ) → Ranking (busier counters) (is_executed counters) l → l ≡ addresses
  -- "one line .. for each address executed", and for no other
  pub all : (a : ℕ) → In a (executed c) → In a addresses
  pub only : (a : ℕ) → In a addresses → In a (executed c)
  -- "reports its lines"
  pub lines_are : lines ≡ length addresses
  -- "of exactly 34 characters and a line feed"
  pub line_long : (a : ℕ) → In a addresses → length (line_of c.setting.program counters a) ≡ 35
  -- "bytes after them are kept"
  pub bytes : page ≡ lines_of c.setting.program counters addresses ++ drop (35 * lines) page₀

pub record BusyRan (c : Call) (k : Records) (o : BusyOutcome) : Type 0 where
  -- all that a run reports and leaves
  pub run : o.run ≡ reported (run_of c.setting c.budget (machine_of c))
  -- "set to how often each address executed in that run"
  pub counters : o.records.counters ≡ counters_of (executed c)
  -- "they add up to its steps"
  pub sum : total_of o.records.counters ≡ steps_of o.run.answer
  -- "The run writes the page too"
  pub page : BusyPage c o.records.counters k.page o.lines o.records.page

-- ---- the whole outcome

-- a refusal leaves everything lent as it was, and has no line
abbrev pub BusyBy : Result (Unit {0}) Refusal → Call → Records → BusyOutcome → Type 0
BusyBy (Err r) c k o = o ≡ busy_outcome (refused_of r c) 0 k
BusyBy (Ok p) c k o = BusyRan c k o

pub record BusyPromise (c : Call) (k : Records) (o : BusyOutcome) : Type 0 where
  pub outcome : BusyBy (busy_refusal_of c k) c k o
  -- the first demand: refused by the lowest number that applies
  pub refuses : FirstViolation (busy_checks c k) (answer_number o.run.answer)
  -- with good counters and a good page, all that the run answers and leaves is as without them
  pub as_run : bad_records k ≡ false → o.run ≡ call_of c
