-- A run (01, 'The machine'): the steps up to the first stop, the trace that it leaves, and the refusals 17, 18 and 19.
-- Assumes nothing.
use Rattle.std.specs.Prelude.{ℕ, zero, suc, ◌+◌, Bool, false, not, cond, ◌&&◌, ◌||◌, List, [], ◌∷◌, eqb, leb, ltb, length, Result, Ok, Err, Option, Some, None}
use Rattle.alu.specs.Alu.{is_settled}
use Rattle.isa.specs.Facts.{class_of, writes_roll}
use Rattle.isa.specs.Table.{cycles_of}
use Rattle.isa.specs.declared.Class.{Class}
use Rattle.isa.specs.declared.Class.TheVariants as class
use Rattle.isa.specs.declared.Instr.{Instr}
use Rattle.slices.specs.Checks.{Check, check}
use Rattle.slices.specs.Sizes.{bad_bank}
use Rattle.model.specs.Step.{Setting, setting, Core, Machine, machine_at, next_instr, step_of}
use Rattle.model.specs.declared.Ran.{Ran}
use Rattle.model.specs.declared.Refusal.{Refusal}
use Rattle.model.specs.declared.Refusal.TheVariants.{BadBank, BadPosition, BadBudget}
use Rattle.model.specs.declared.State.{State}
use Rattle.model.specs.declared.Stop.{Stop}
use Rattle.model.specs.declared.Stop.TheVariants.{Halted, Spent, Unsettled, Full}

-- ---- stops

-- "the instruction is jv, jnv, jlt or jle"
abbrev pub tests_in : Class → Bool
tests_in (class.Next e) = false
tests_in (class.Jump a) = false
tests_in (class.Branch a v) = v
tests_in class.JumpReg = false
tests_in (class.Call a) = false
tests_in class.Return = false
tests_in (class.Push a) = false
tests_in class.Pop = false
tests_in (class.Swap a) = false
tests_in class.Halt = false

abbrev pub tests_overflow : Instr → Bool
tests_overflow i = tests_in (class_of i)

-- "Before each step the first that holds stops it: halted; budget spent; the instruction is jv, jnv, jlt or jle and V is unsettled; it writes
-- to the roll and the roll is full." Where none holds the step is made
abbrev pub first_stop : Bool → Bool → Bool → Bool → Option Stop
first_stop halted spent unsettled full =
    cond halted (Some Halted) (cond spent (Some Spent) (cond unsettled (Some Unsettled) (cond full (Some Full) None)))

-- n is what is left of the budget
unfoldable pub verdict_of : Instr → ℕ → Core → Option Stop
verdict_of i n k =
    first_stop k.state.halted (eqb n 0) (tests_overflow i && not (is_settled k.state.flags.v))
    (writes_roll i && leb (length k.roll) k.words)

abbrev pub verdict_at : Setting → ℕ → Machine → Option Stop
verdict_at x n m = verdict_of (next_instr x m) n m.core

-- ---- a step as a run asks for it

-- the verdict, the cycles and the machine left
pub record Attempt : Type 0 where
  pub verdict : Option Stop
  pub cycles : ℕ
  pub machine : Machine

abbrev pub attempt : Option Stop → ℕ → Machine → Attempt
attempt v n m = record { verdict = v; cycles = n; machine = m }

-- "A stopped instruction has done nothing and isn't counted"
abbrev pub attempt_by : Option Stop → Setting → Machine → Attempt
attempt_by (Some y) x m = attempt (Some y) 0 m
attempt_by None x m = attempt None (cycles_of (next_instr x m)) (step_of x m)

-- where some budget is left
unfoldable pub attempt_of : Setting → Machine → Attempt
attempt_of x m = attempt_by (verdict_at x 1 m) x m

-- the steps that an attempt makes
abbrev pub steps_by : Option Stop → ℕ
steps_by (Some y) = 0
steps_by None = 1

-- ---- a run

-- where a run ended
pub record Ended : Type 0 where
  pub stop : Stop
  pub machine : Machine

abbrev pub ended : Stop → Machine → Ended
ended y m = record { stop = y; machine = m }

abbrev pub unless_stopped : Option Stop → Machine → Ended → Ended
unless_stopped (Some y) m rest = ended y m
unless_stopped None m rest = rest

-- "it makes every step up to the first stop, and no other". With no budget left the verdict is halted or spent, so what stands for the rest
-- there is never reached
unfoldable pub run_of : Setting → ℕ → Machine → Ended
run_of x zero m = unless_stopped (verdict_at x zero m) m (ended Spent m)
run_of x (suc n) m = unless_stopped (verdict_at x (suc n) m) m (run_of x n (step_of x m))

-- the machine before each step of a run
abbrev pub trace_on : Option Stop → List Machine → List Machine
trace_on (Some y) rest = []
trace_on None rest = rest

unfoldable pub trace_of : Setting → ℕ → Machine → List Machine
trace_of x zero m = []
trace_of x (suc n) m = trace_on (verdict_at x (suc n) m) (m ∷ trace_of x n (step_of x m))

-- the cycles of the instructions of a trace
abbrev pub cycles_in : Setting → List Machine → ℕ
cycles_in x [] = 0
cycles_in x (m ∷ l) = cycles_of (next_instr x m) + cycles_in x l

-- ---- a run as it is called

-- what a run is called with
pub record Call : Type 0 where
  pub setting : Setting
  pub budget : ℕ
  pub state : State
  pub ram : List ℕ
  pub stack : List ℕ
  pub roll : List ℕ

abbrev pub call : (ops args keys : List ℕ) → (budget : ℕ) → State → (ram stack roll : List ℕ) → Call
call ops args keys budget s ram stack roll =
    record { setting = setting ops args keys; budget = budget; state = s; ram = ram; stack = stack; roll = roll }

-- all that a run answers and leaves
pub record Outcome : Type 0 where
  pub answer : Result Ran Refusal
  pub state : State
  pub ram : List ℕ
  pub stack : List ℕ
  pub roll : List ℕ

abbrev pub outcome : Result Ran Refusal → State → List ℕ → List ℕ → List ℕ → Outcome
outcome a s ram stack roll = record { answer = a; state = s; ram = ram; stack = stack; roll = roll }

-- "Each run writes the roll from its beginning"; steps and cycles are those of this run
abbrev pub machine_of : Call → Machine
machine_of c = machine_at c.state c.ram c.stack c.roll 0 0 0

-- "reports stop, steps, cycles, roll words and the state reached"
abbrev pub ran : Stop → (steps cycles words : ℕ) → Result Ran Refusal
ran y steps cycles words = Ok (record { stop = y; steps = steps; cycles = cycles; words = words })

abbrev pub reported : Ended → Outcome
reported e =
    outcome (ran e.stop e.machine.core.steps e.machine.core.cycles e.machine.core.words) e.machine.core.state
    e.machine.core.ram e.machine.stack e.machine.core.roll

-- a refusal leaves everything lent as it was
abbrev pub refused_of : Refusal → Call → Outcome
refused_of r c = outcome (Err r) c.state c.ram c.stack c.roll

-- ---- its refusals

-- 17: "A run's bank isn't 256 bytes"
abbrev pub bad_banks : Call → Bool
bad_banks c = bad_bank c.setting.program.opcodes || bad_bank c.setting.program.arguments || bad_bank c.ram || bad_bank c.stack

-- 18: "Its key position is past the end of the keys (equal is allowed)"
abbrev pub bad_position : Call → Bool
bad_position c = ltb (length c.setting.keys) c.state.position

-- 19: "Its budget is over 1,000,000"
abbrev pub max_budget : ℕ
max_budget = 1000000

abbrev pub bad_budget : Call → Bool
bad_budget c = ltb max_budget c.budget

-- a refusal, and whether the call gives cause for it
pub record Cause : Type 0 where
  pub refusal : Refusal
  pub given : Bool

abbrev pub cause : Refusal → Bool → Cause
cause r b = record { refusal = r; given = b }

-- "the lowest number that applies first"
abbrev pub causes : Call → List Cause
causes c = cause BadBank (bad_banks c) ∷ cause BadPosition (bad_position c) ∷ cause BadBudget (bad_budget c) ∷ []

abbrev pub first_cause : List Cause → Result (Unit {0}) Refusal
first_cause [] = Ok tt
first_cause (x ∷ xs) = cond x.given (Err x.refusal) (first_cause xs)

unfoldable pub refusal_of : Call → Result (Unit {0}) Refusal
refusal_of c = first_cause (causes c)

-- the whole outcome of a call
abbrev pub outcome_by : Result (Unit {0}) Refusal → Call → Outcome
outcome_by (Err r) c = refused_of r c
outcome_by (Ok p) c = reported (run_of c.setting c.budget (machine_of c))

unfoldable pub call_of : Call → Outcome
call_of c = outcome_by (refusal_of c) c

-- 01's number for each case of the answer, 0 where nothing is refused
abbrev pub refusal_number : Refusal → ℕ
refusal_number BadBank = 17
refusal_number BadPosition = 18
refusal_number BadBudget = 19

abbrev pub answer_number : Result Ran Refusal → ℕ
answer_number (Err r) = refusal_number r
answer_number (Ok y) = 0

-- the same causes as rules with 01's numbers
abbrev pub checks_of : List Cause → List Check
checks_of [] = []
checks_of (x ∷ xs) = check (refusal_number x.refusal) 0 x.given ∷ checks_of xs

abbrev pub run_checks : Call → List Check
run_checks c = checks_of (causes c)
