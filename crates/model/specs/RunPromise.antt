-- What a run promises of its call and its outcome: the second demand's definition, the first demand's sentence about calls, and what a
-- caller may conclude from the definition.
-- Assumes nothing.
use Rattle.std.specs.Prelude.{ℕ, suc, ◌+◌, ◌≤◌, ◌≡◌, length, Result, Ok, Err}
use Rattle.slices.specs.Checks.{NoneBroken, FirstViolation}
use Rattle.model.specs.AfterMov.{MovClears}
use Rattle.model.specs.Run.{run_of, ran, trace_of, cycles_in, Call, Outcome, machine_of, call_of, answer_number, run_checks}
use Rattle.model.specs.declared.Ran.{Ran}
use Rattle.model.specs.declared.Refusal.{Refusal}
use Rattle.model.specs.declared.Stop.{Stop}

-- an answer with one of the four stops
pub record Stops (a : Result Ran Refusal) : Type 0 where
  pub stop : Stop
  pub steps : ℕ
  pub cycles : ℕ
  pub words : ℕ
  pub is : a ≡ ran stop steps cycles words

-- state and buffers are as they were lent
pub record Unchanged (c : Call) (o : Outcome) : Type 0 where
  pub state : o.state ≡ c.state
  pub ram : o.ram ≡ c.ram
  pub stack : o.stack ≡ c.stack
  pub roll : o.roll ≡ c.roll

-- 01, checklist: steps and cycles are "summed from the instructions executed", and there are no more than the budget
abbrev pub Counted : Call → Result Ran Refusal → Type 0
Counted c (Err r) = Unit {0}
Counted c (Ok r) =
    (r.steps ≡ length (trace_of c.setting c.budget (machine_of c)))
    × (r.cycles ≡ cycles_in c.setting (trace_of c.setting c.budget (machine_of c)))
    × (r.steps ≤ c.budget)

-- the lengths of the lent buffers are kept
pub record LengthsKept (c : Call) (o : Outcome) : Type 0 where
  pub ram : length o.ram ≡ length c.ram
  pub stack : length o.stack ≡ length c.stack
  pub roll : length o.roll ≡ length c.roll

-- a run of j steps and then of at least one more from where that ended is a run of them all, and ends with its stop
abbrev pub RunsOn : Call → Type 0
RunsOn c = (j n : ℕ) → run_of c.setting (j + suc n) (machine_of c) ≡ run_of c.setting (suc n) (run_of c.setting j (machine_of c)).machine

-- and leaves the same machine, also where no step more is asked for
abbrev pub MachineRunsOn : Call → Type 0
MachineRunsOn c =
    (j n : ℕ) → (run_of c.setting (j + n) (machine_of c)).machine ≡ (run_of c.setting n (run_of c.setting j (machine_of c)).machine).machine

pub record RunPromise (c : Call) (o : Outcome) : Type 0 where
  -- the second demand: "it makes every step up to the first stop, and no other"
  pub computed : o ≡ call_of c
  -- the first: a run with good banks, key position and budget always ends in one of four named stops
  pub stops : NoneBroken (run_checks c) → Stops o.answer
  -- every other call is refused by the first rule it breaks
  pub refuses : FirstViolation (run_checks c) (answer_number o.answer)
  -- and nothing lent changes
  pub unchanged : (NoneBroken (run_checks c) → ⊥) → Unchanged c o
  pub counted : Counted c o.answer
  pub lengths_kept : LengthsKept c o
  pub runs_on : RunsOn c
  pub machine_runs_on : MachineRunsOn c
  -- 02, [4]: a jump on V right after function 0000 has a defined outcome
  pub mov_clears : MovClears c.setting
