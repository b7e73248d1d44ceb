-- 02, [4]: "V is settled at 0 after function 0000, with or without a destination", and "a jump on V right after function 0000 now has a
-- defined outcome in every run".
-- Assumes nothing.
use Rattle.std.specs.Prelude.{ℕ, suc, ◌<◌, ◌≡◌, false, cond, ◌||◌}
use Rattle.alu.specs.declared.Overflow.TheVariants.{Settled}
use Rattle.isa.specs.declared.Instr.{Instr}
use Rattle.isa.specs.declared.Instr.TheVariants.{Alu, AluNone, Jv, Jnv, Jlt, Jle}
use Rattle.model.specs.Run.{run_of}
use Rattle.model.specs.State.{next_address}
use Rattle.model.specs.Step.{Setting, Machine, next_instr, step_of}
use Rattle.model.specs.declared.State.{State}
use Rattle.model.specs.declared.Stop.TheVariants.{Unsettled}

pub data AppliesMov : Instr → Type 0 where
  has_destination : {d a b : ℕ} → AppliesMov (Alu d a 0b0000 b)
  without_destination : {a b : ℕ} → AppliesMov (AluNone a 0b0000 b)

-- a run with budget left makes the jump at m, unless it is halted there, and the jump leads to address a
pub record JumpsTo (x : Setting) (m : Machine) (a : ℕ) : Type 0 where
  pub made : m.core.state.halted ≡ false → (n : ℕ) → run_of x (suc n) m ≡ run_of x n (step_of x m)
  pub leads : (step_of x m).core.state.pc ≡ a

-- a machine m with V clear, s being its state
pub record VClear (x : Setting) (m : Machine) (s : State) : Type 0 where
  pub is_clear : s.flags.v ≡ Settled false
  -- a run that ends `unsettled` has made a step before
  pub not_here : (n : ℕ) → (run_of x n m).stop ≡ Unsettled → m.core.steps < (run_of x n m).machine.core.steps
  -- jv isn't taken and jnv is; jlt goes by S, and jle by S or Z
  pub jv : (i : ℕ) → next_instr x m ≡ Jv i → JumpsTo x m (next_address s.pc)
  pub jnv : (i : ℕ) → next_instr x m ≡ Jnv i → JumpsTo x m i
  pub jlt : (i : ℕ) → next_instr x m ≡ Jlt i → JumpsTo x m (cond s.flags.s i (next_address s.pc))
  pub jle : (i : ℕ) → next_instr x m ≡ Jle i → JumpsTo x m (cond (s.flags.s || s.flags.z) i (next_address s.pc))

-- after function 0000, executed at any machine m whatever
pub record AfterMov (x : Setting) (m : Machine) : Type 0 where
  pub halted_kept : (step_of x m).core.state.halted ≡ m.core.state.halted
  pub c_clear : (step_of x m).core.state.flags.c ≡ false
  -- where the state that it leaves is run on: in this run, or in another one with banks, keys and roll of its own
  pub v_clear : (x' : Setting) (m' : Machine) → m'.core.state ≡ (step_of x m).core.state → VClear x' m' m'.core.state

abbrev pub MovClears : Setting → Type 0
MovClears x = (m : Machine) → AppliesMov (next_instr x m) → AfterMov x m
