-- What was counted before does not matter to what is done: verdicts, steps and runs go on alike from other counts of steps and cycles.
-- Assumes nothing.
use mathlib.Core.Path.{◌≡◌, refl, ◌∙◌}
use Prim.Native.Nat.{ℕ, zero, suc, ◌+◌}
use native.Mathlib.Nat.{add_assoc}
use Rattle.model.specs.Run.{ended, verdict_of, verdict_at, run_of}
use Rattle.model.specs.Step.{Setting, Machine, machine_at, applied_of, step_of}
use Rattle.model.proofs.Runs.{by_verdict, run_stops, run_goes, none_left}

-- a machine with so many steps and cycles more counted
abbrev pub recounted : ℕ → ℕ → Machine → Machine
recounted k c m =
    machine_at m.core.state m.core.ram m.stack m.core.roll m.core.words (k + m.core.steps) (c + m.core.cycles)

module _ (x : Setting) (k c : ℕ) where
  pub verdict_recounted : (n : ℕ) (m : Machine) → verdict_at x n (recounted k c m) ≡ verdict_at x n m
  unfolding verdict_of
  verdict_recounted n m = refl

  pub step_recounted : (m : Machine) → step_of x (recounted k c m) ≡ recounted k c (step_of x m)
  unfolding step_of applied_of
  step_recounted m = rw (add_assoc k m.core.steps 1, add_assoc c m.core.cycles)

  pub run_recounted : (n : ℕ) (m : Machine) → run_of x n (recounted k c m) ≡ ended (run_of x n m).stop (recounted k c (run_of x n m).machine)
  run_recounted zero m = rw (none_left x m, none_left x (recounted k c m))
  run_recounted (suc n) m =
      by_verdict (verdict_at x (suc n) m)
      (λ y e. rw (run_stops x (suc n) m y e, run_stops x (suc n) (recounted k c m) y (verdict_recounted (suc n) m ∙ e)))
      (λ e. rw (run_goes x n m e, run_goes x n (recounted k c m) (verdict_recounted (suc n) m ∙ e), step_recounted m) (run_recounted n (step_of x m)))
