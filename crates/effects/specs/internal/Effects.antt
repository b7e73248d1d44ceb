-- An instruction's effect as the code has it, and what that says of its plan, its cycles and what a run asks of it.
-- Assumes nothing.
use Rattle.std.specs.Prelude.{ℕ, Bool, true, false, List}
use Rattle.alu.specs.Alu.{alu_of}
use Rattle.isa.specs.Facts.{writes_roll}
use Rattle.isa.specs.Table.{cycles_of}
use Rattle.isa.specs.declared.Instr.{Instr}
use Rattle.model.specs.Plan.{Plan, plan, no_write, plan_of}
use Rattle.model.specs.Run.{tests_overflow}
use Rattle.model.specs.State.{with_registers, with_register, with_flags}
use Rattle.model.specs.declared.State.{State}
use Rattle.model.specs.declared.Write.TheVariants.{Data, Stack, Roll}
use Rattle.effects.specs.declared.Action.{Action}
use Rattle.effects.specs.declared.Action.TheVariants as action
use Rattle.effects.specs.declared.Effect.{Effect}

abbrev pub effect : State → Action → ℕ → Effect
effect s a n = record { state = s; action = a; cycles = n }

-- the state after function f of x and y, with the result in register d
abbrev pub operated : State → ℕ → ℕ → ℕ → ℕ → State
operated s d f x y = with_register (with_flags s (alu_of f x y s.flags.c).flags) d (alu_of f x y s.flags.c).value

-- the plan of an action at a state that has its registers
abbrev pub plan_by : State → Action → Plan
plan_by s action.Nothing = no_write s
plan_by s action.TestV = no_write s
plan_by s (action.Register d v) = no_write (with_register s d v)
plan_by s (action.Data a v) = plan s (Data a v)
plan_by s (action.Stack a v) = plan s (Stack a v)
plan_by s (action.Swap d old a v) = plan (with_register s d old) (Stack a v)
plan_by s (action.Roll w) = plan s (Roll w)
plan_by s (action.Compute d f x y) = no_write (operated s d f x y)

abbrev pub tests_by : Action → Bool
tests_by action.Nothing = false
tests_by action.TestV = true
tests_by (action.Register d v) = false
tests_by (action.Data a v) = false
tests_by (action.Stack a v) = false
tests_by (action.Swap d old a v) = false
tests_by (action.Roll w) = false
tests_by (action.Compute d f x y) = false

abbrev pub sends_by : Action → Bool
sends_by action.Nothing = false
sends_by action.TestV = false
sends_by (action.Register d v) = false
sends_by (action.Data a v) = false
sends_by (action.Stack a v) = false
sends_by (action.Swap d old a v) = false
sends_by (action.Roll w) = true
sends_by (action.Compute d f x y) = false

-- what a step goes by: the plan, the cycles, whether V is tested, whether the roll is written
pub record Behavior : Type 0 where
  pub plan' : Plan
  pub cycles : ℕ
  pub tests : Bool
  pub sends : Bool

-- the behavior of an effect, the registers lent beside its state
abbrev pub behavior_by : List ℕ → Effect → Behavior
behavior_by regs e =
    record { plan' = plan_by (with_registers e.state regs) e.action; cycles = e.cycles; tests = tests_by e.action; sends = sends_by e.action }

abbrev pub behavior_of : Instr → State → ℕ → List ℕ → List ℕ → Behavior
behavior_of i s top ram keys =
    record { plan' = plan_of s top ram keys i; cycles = cycles_of i; tests = tests_overflow i; sends = writes_roll i }
