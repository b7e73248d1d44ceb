-- A step counts one, adds its cycles, and keeps the lengths of the banks and the roll; so does a run.
-- Assumes nothing.
use mathlib.Core.Path.{◌≡◌, refl, ◌∙◌}
use mathlib.Core.List.{List}
use Prim.Native.Nat.{ℕ, zero, suc, ◌+◌}
use lib.ListN.{length, length-set}
use Rattle.isa.specs.Table.{cycles_of}
use Rattle.model.specs.Plan.{Plan}
use Rattle.model.specs.Run.{verdict_at, run_of}
use Rattle.model.specs.Step.{Setting, Machine, next_instr, ram_after, stack_after, roll_after, applied_of, plan_at, step_of}
use Rattle.model.specs.declared.Write.{Write}
use Rattle.model.specs.declared.Write.TheVariants.{Nothing, Data, Stack, Roll}
use Rattle.model.proofs.Runs.{by_verdict, none_left, run_stops, run_goes}

ram_kept : (w : Write) (l : List ℕ) → length (ram_after w l) ≡ length l
ram_kept Nothing l = refl
ram_kept (Data a v) l = simp length-set
ram_kept (Stack a v) l = refl
ram_kept (Roll w) l = refl

stack_kept : (w : Write) (l : List ℕ) → length (stack_after w l) ≡ length l
stack_kept Nothing l = refl
stack_kept (Data a v) l = refl
stack_kept (Stack a v) l = simp length-set
stack_kept (Roll w) l = refl

roll_kept : (w : Write) (n : ℕ) (l : List ℕ) → length (roll_after w n l) ≡ length l
roll_kept Nothing n l = refl
roll_kept (Data a v) n l = refl
roll_kept (Stack a v) n l = refl
roll_kept (Roll w) n l = simp length-set

-- from m on, the lengths of the banks and the roll are those of m
pub record Kept (m m' : Machine) : Type 0 where
  pub ram : length m'.core.ram ≡ length m.core.ram
  pub stack : length m'.stack ≡ length m.stack
  pub roll : length m'.core.roll ≡ length m.core.roll

pub kept_refl : (m : Machine) → Kept m m
kept_refl m = record { ram = refl; stack = refl; roll = refl }

pub kept_trans : (m m' m'' : Machine) → Kept m m' → Kept m' m'' → Kept m m''
kept_trans m m' m'' h k =
    record { ram = k.ram ∙ h.ram; stack = k.stack ∙ h.stack; roll = k.roll ∙ h.roll }

apply_keeps : (x : Plan) (n : ℕ) (m : Machine) → Kept m (applied_of x n m)
unfolding applied_of
apply_keeps x n m =
    record {
      ram = ram_kept x.write m.core.ram;
      stack = stack_kept x.write m.stack;
      roll = roll_kept x.write m.core.words m.core.roll;
    }

module _ (x : Setting) where
  pub step_counts : (m : Machine) → (step_of x m).core.steps ≡ m.core.steps + 1
  unfolding step_of applied_of
  step_counts m = refl

  pub step_pays : (m : Machine) → (step_of x m).core.cycles ≡ m.core.cycles + cycles_of (next_instr x m)
  unfolding step_of applied_of
  step_pays m = refl

  pub step_keeps : (m : Machine) → Kept m (step_of x m)
  unfolding step_of
  step_keeps m = apply_keeps (plan_at x (next_instr x m) m) (cycles_of (next_instr x m)) m

  pub run_keeps : (n : ℕ) (m : Machine) → Kept m (run_of x n m).machine
  run_keeps zero m = rw (none_left x m) (kept_refl m)
  run_keeps (suc n) m =
      by_verdict (verdict_at x (suc n) m)
      (λ y e. rw (run_stops x (suc n) m y e) (kept_refl m))
      (λ e. rw (run_goes x n m e) (kept_trans m (step_of x m) _ (step_keeps m) (run_keeps n (step_of x m))))
