-- Function 0000 leaves V clear, so no run is stopped `unsettled` right behind it, and a jump on V goes by S and Z.
-- Assumes nothing.
use Prim.Native.Nat.{ℕ, zero, suc, ◌+◌, ◌<◌}
use native.Mathlib.Omega.{arith}
use mathlib.Core.Path.{◌≡◌, refl, sym, ap, ◌∙◌}
use mathlib.Core.Bool.{Bool, true, false, cond, ◌||◌}
use mathlib.Core.List.{List}
use lib.Dec.{eqb-suc-zero}
use Rattle.std.specs.Prelude.{Some}
use Rattle.slices.proofs.Bools.{and_off}
use Rattle.alu.specs.Alu.{alu_of}
use Rattle.alu.specs.declared.Overflow.TheVariants.{Settled}
use Rattle.isa.specs.Facts.{writes_roll}
use Rattle.isa.specs.declared.Instr.{Instr}
use Rattle.isa.specs.declared.Instr.TheVariants.{Jv, Jnv, Jlt, Jle}
use Rattle.model.specs.AfterMov.{AppliesMov, has_destination, without_destination, JumpsTo, VClear, MovClears}
use Rattle.model.specs.Plan.{value_of, differ, plan_of}
use Rattle.model.specs.Run.{tests_overflow, verdict_of, verdict_at, run_of}
use Rattle.model.specs.State.{next_address, with_pc}
use Rattle.model.specs.Step.{Setting, Machine, next_instr, fetched, top_of, applied_of, plan_at, step_of}
use Rattle.model.specs.declared.State.{State}
use Rattle.model.specs.declared.Stop.TheVariants.{Unsettled}
use Rattle.model.proofs.Runs.{by_verdict, none_left, run_stops, run_goes}
use Rattle.model.proofs.Stops.{stop_in, never_unsettled, last_settled}
use Rattle.model.proofs.Traces.{run_steps}

-- ---- the plan of function 0000

record Clears (s s' : State) : Type 0 where
  pub v : s'.flags.v ≡ Settled false
  pub c : s'.flags.c ≡ false
  pub halted : s'.halted ≡ s.halted

plan_clears : (i : Instr) → AppliesMov i → (s : State) (top : ℕ) (ram keys : List ℕ) → Clears s (plan_of s top ram keys i).state
unfolding alu_of
plan_clears i has_destination s top ram keys = record { v = refl; c = refl; halted = refl }
plan_clears i without_destination s top ram keys = record { v = refl; c = refl; halted = refl }

-- ---- jumps

-- S against a V that is clear
differ_clear : (s : Bool) → differ false s ≡ s
differ_clear true = refl
differ_clear false = refl

-- a jump by a test: to its address, or to the next one
jump_leads : (b : Bool) (s : State) (a : ℕ) → (cond b (with_pc s a) s).pc ≡ cond b a s.pc
jump_leads true s a = refl
jump_leads false s a = refl

module _ (x : Setting) (m : Machine) (clear : m.core.state.flags.v ≡ Settled false) where
  never_stopped : (n : ℕ) → verdict_at x n m ≡ Some Unsettled → ⊥
  never_stopped n = never_unsettled (next_instr x m) n m.core (rw clear (and_off (tests_overflow (next_instr x m)) false (λ q. refl)))

  step_counted : (step_of x m).core.steps ≡ m.core.steps + 1
  unfolding step_of applied_of
  step_counted = refl

  stopped_later : (n : ℕ) → (run_of x n m).stop ≡ Unsettled → m.core.steps < (run_of x n m).machine.core.steps
  stopped_later zero e = absurd (last_settled m.core.state.halted (sym (ap stop_in (none_left x m)) ∙ e))
  stopped_later (suc n) e =
      by_verdict (verdict_at x (suc n) m)
      (λ y q. absurd (never_stopped (suc n) (q ∙ ap Some (sym (ap stop_in (run_stops x (suc n) m y q)) ∙ e))))
      (λ q. rw (run_goes x n m q) (omega (arith, step_counted, run_steps x n (step_of x m))))

  -- the state after a jump to a by the test b
  abbrev after : ℕ → Bool → State
  after a b = cond b (with_pc (fetched m.core.state) a) (fetched m.core.state)

  -- an instruction that is such a jump, and writes nothing to the roll
  jumps : (i : Instr) (b : Bool) (a : ℕ) → next_instr x m ≡ i → writes_roll i ≡ false → (plan_at x i m).state ≡ after a b
      → JumpsTo x m (cond b a (next_address m.core.state.pc))
  unfolding verdict_of step_of applied_of
  jumps i b a e w p =
      record {
        made = λ h n. run_goes x n m (rw (e, w, h, clear, eqb-suc-zero n, and_off (tests_overflow i) false (λ q. refl)));
        leads = rw (e, p) (jump_leads b (fetched m.core.state) a);
      }

  less : differ (value_of m.core.state.flags.v) m.core.state.flags.s ≡ m.core.state.flags.s
  less = rw clear (differ_clear m.core.state.flags.s)

  v_clear : VClear x m m.core.state
  v_clear =
      record {
        is_clear = clear;
        not_here = stopped_later;
        jv = λ i e. jumps (Jv i) false i e refl (rw clear);
        jnv = λ i e. jumps (Jnv i) true i e refl (rw clear);
        jlt = λ i e. jumps (Jlt i) m.core.state.flags.s i e refl (ap (after i) less);
        jle = λ i e. jumps (Jle i) (m.core.state.flags.s || m.core.state.flags.z) i e refl (ap (λ (b : Bool). after i (b || m.core.state.flags.z)) less);
      }

pub mov_clears : (x : Setting) → MovClears x
unfolding step_of applied_of
mov_clears x m mov =
    let p = plan_clears (next_instr x m) mov (fetched m.core.state) (top_of m) m.core.ram x.keys in
    record { halted_kept = p.halted; c_clear = p.c; v_clear = λ x' m' e. v_clear x' m' (ap (λ (s : State). s.flags.v) e ∙ p.v) }
