-- The outcome of a conditional jump as the code has it, and its effect.
-- Assumes nothing.
use Rattle.std.specs.Prelude.{ℕ, Bool, cond, List, ◌≡◌}
use Rattle.isa.specs.declared.Class.{Class}
use Rattle.isa.specs.declared.Class.TheVariants as class
use Rattle.isa.specs.declared.Instr.{Instr}
use Rattle.model.specs.State.{with_registers, with_pc}
use Rattle.model.specs.declared.State.{State}
use Rattle.effects.specs.internal.Effects.{effect, plan_by, tests_by, sends_by, Behavior, behavior_by, behavior_of}
use Rattle.effects.specs.declared.Action.{Action}
use Rattle.effects.specs.declared.Action.TheVariants as action
use Rattle.effects.specs.declared.Effect.{Effect}
use Rattle.branches.specs.declared.BranchOutcome.{BranchOutcome}
use Rattle.branches.specs.declared.BranchOutcome.TheVariants as outcome

-- the class of the conditional jumps
abbrev pub IsBranch : Class → Type 0
IsBranch (class.Next v) = ⊥
IsBranch (class.Jump i) = ⊥
IsBranch (class.Branch i t) = Unit {0}
IsBranch class.JumpReg = ⊥
IsBranch (class.Call i) = ⊥
IsBranch class.Return = ⊥
IsBranch (class.Push a) = ⊥
IsBranch class.Pop = ⊥
IsBranch (class.Swap a) = ⊥
IsBranch class.Halt = ⊥

abbrev pub branch_effect_of : State → BranchOutcome → Effect
branch_effect_of s outcome.Next = effect s action.Nothing 3
branch_effect_of s (outcome.Jump a) = effect (with_pc s a) action.Nothing 3
branch_effect_of s outcome.TestedNext = effect s action.TestV 3
branch_effect_of s (outcome.TestedJump a) = effect (with_pc s a) action.TestV 3

-- the behavior of a jump to address a where b holds, with this action
abbrev pub going_to : State → Action → Bool → ℕ → Behavior
going_to s t b a = record { plan' = plan_by (cond b (with_pc s a) s) t; cycles = 3; tests = tests_by t; sends = sends_by t }

-- an outcome that has this behavior, whatever lies in the registers
abbrev pub Goes : BranchOutcome → Action → Bool → ℕ → Type 0
Goes c t b a = (s : State) (regs : List ℕ) → behavior_by regs (branch_effect_of s c) ≡ going_to (with_registers s regs) t b a

-- an outcome that has the jump's effect, whatever lies in the registers, in the banks and among the keys
abbrev pub Takes : Instr → State → BranchOutcome → Type 0
Takes i s c =
    (regs : List ℕ) (top : ℕ) (ram keys : List ℕ) → behavior_by regs (branch_effect_of s c) ≡ behavior_of i (with_registers s regs) top ram keys
