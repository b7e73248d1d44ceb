-- 01, 'Lists of runs': runs one after another, what each answers and leaves, and the events that a tally is fed.
-- Assumes nothing.
use Rattle.std.specs.Prelude.{ℕ, ◌≡◌, List, [], ◌∷◌, ◌++◌, Bool, true, Result, Ok, Err}
use Rattle.model.specs.Run.{Outcome, Call, call_of, trace_of}
use Rattle.model.specs.State.{start_with}
use Rattle.model.specs.Step.{Program, Setting, setting, Machine, machine_at}
use Rattle.model.specs.declared.Ran.{Ran}
use Rattle.model.specs.declared.Refusal.{Refusal}
use Rattle.model.specs.declared.State.{State}
use Rattle.slices.specs.Sizes.{bad_bank}

-- what lies between runs: the state and the two banks that a run writes
pub record Snapshot : Type 0 where
  pub state : State
  pub ram : List ℕ
  pub stack : List ℕ

-- a run "gets the state reached or a start state anew", with any registers, Z, C and S
pub data Start : Type 0 where
  resume : Start
  restart : List ℕ → Bool → Bool → Bool → Start

-- each bank that a run is lent is the list's own, or "a buffer of another length, lent in a bank's place"
pub data Buffer : Type 0 where
  own : Buffer
  foreign : (l : List ℕ) → bad_bank l ≡ true → Buffer

-- a run of the list, "with keys, budget and roll of its own"
pub record ListedRun : Type 0 where
  pub start : Start
  pub opcodes : Buffer
  pub arguments : Buffer
  pub ram : Buffer
  pub stack : Buffer
  pub keys : List ℕ
  pub budget : ℕ
  pub roll : List ℕ

abbrev pub start_from : Start → State → State
start_from resume s = s
start_from (restart regs z c x) s = start_with regs z c x

abbrev pub lent : Buffer → List ℕ → List ℕ
lent own l = l
lent (foreign b q) l = b

-- what a run of the list is called with, and what it answers and leaves in what it is lent
abbrev pub call_in : Program → ListedRun → Snapshot → Call
call_in p r w =
    record {
      setting = setting (lent r.opcodes p.opcodes) (lent r.arguments p.arguments) r.keys;
      budget = r.budget;
      state = start_from r.start w.state;
      ram = lent r.ram w.ram;
      stack = lent r.stack w.stack;
      roll = r.roll;
    }

unfoldable pub outcome_of : Program → ListedRun → Snapshot → Outcome
outcome_of p r w = call_of (call_in p r w)

-- "A refused run leaves both as they were and is no start"
abbrev pub snapshot_by : Result Ran Refusal → Outcome → Snapshot → Snapshot
snapshot_by (Err x) o w = w
snapshot_by (Ok y) o w = record { state = o.state; ram = o.ram; stack = o.stack }

abbrev pub left_by : Outcome → Snapshot → Snapshot
left_by o w = snapshot_by o.answer o w

-- what a tally is fed: a start anew, or a step with what the run reads and the machine before it
pub data Event : Type 0 where
  starts : Event
  steps : Setting → Machine → Event

abbrev pub steps_in : Setting → List Machine → List Event
steps_in x [] = []
steps_in x (m ∷ l) = steps x m ∷ steps_in x l

abbrev pub start_events : Start → List Event
start_events resume = []
start_events (restart regs z c x) = starts ∷ []

-- what a run that is not refused reads, and the machine at its beginning: its banks are the list's own
abbrev pub run_setting : Program → ListedRun → Setting
run_setting p r = record { program = p; keys = r.keys }

abbrev pub run_machine : ListedRun → Snapshot → Machine
run_machine r w = machine_at (start_from r.start w.state) w.ram w.stack r.roll 0 0 0

-- "every step of the list in order, as the second demand defines steps": those of the run's trace
abbrev pub events_by : Result Ran Refusal → Program → ListedRun → Snapshot → List Event
events_by (Err x) p r w = []
events_by (Ok y) p r w =
    start_events r.start ++ steps_in (run_setting p r) (trace_of (run_setting p r) r.budget (run_machine r w))

abbrev pub run_events : Program → ListedRun → Snapshot → List Event
run_events p r w = events_by (outcome_of p r w).answer p r w

-- the outcomes of a list of runs, and what a tally is fed by it: "Each run is lent the banks as the last one left them"
unfoldable pub outcomes : Program → List ListedRun → Snapshot → List Outcome
outcomes p [] w = []
outcomes p (r ∷ rs) w = outcome_of p r w ∷ outcomes p rs (left_by (outcome_of p r w) w)

unfoldable pub events : Program → List ListedRun → Snapshot → List Event
events p [] w = []
events p (r ∷ rs) w = run_events p r w ++ events p rs (left_by (outcome_of p r w) w)
