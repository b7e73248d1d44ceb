-- What a run reports is its trace: its steps are the trace's length, its cycles the sum of the cycles of the instructions there.
-- Assumes nothing.
use mathlib.Core.Path.{◌≡◌, sym, ap, ◌∙◌}
use mathlib.Core.List.{[], ◌∷◌}
use Prim.Native.Nat.{ℕ, zero, suc, ◌+◌, ◌≤◌, zero-le, suc-le-suc}
use native.Mathlib.Nat.{add-zero, add_assoc, le_refl}
use native.Mathlib.Omega.{arith}
use lib.ListN.{length}
use Rattle.std.specs.Prelude.{Some, None}
use Rattle.model.specs.Run.{verdict_at, run_of, trace_of, cycles_in}
use Rattle.model.specs.Step.{Setting, Machine, step_of}
use Rattle.model.specs.declared.Stop.{Stop}
use Rattle.model.proofs.Kept.{step_counts, step_pays}
use Rattle.model.proofs.Runs.{by_verdict, none_left, run_stops, run_goes}

one_more : (a n : ℕ) → a + 1 + n ≡ a + suc n
one_more a n = omega arith

module _ (x : Setting) where
  pub trace_stops : (n : ℕ) (m : Machine) (y : Stop) → verdict_at x (suc n) m ≡ Some y → trace_of x (suc n) m ≡ []
  unfolding trace_of
  trace_stops n m y e = rw (e, trace_of)

  pub trace_goes : (n : ℕ) (m : Machine) → verdict_at x (suc n) m ≡ None → trace_of x (suc n) m ≡ m ∷ trace_of x n (step_of x m)
  unfolding trace_of
  trace_goes n m e = rw (e, trace_of)

  pub run_steps : (n : ℕ) (m : Machine) → (run_of x n m).machine.core.steps ≡ m.core.steps + length (trace_of x n m)
  unfolding trace_of
  run_steps zero m = rw (none_left x m) (sym (add-zero m.core.steps))
  run_steps (suc n) m =
      by_verdict (verdict_at x (suc n) m)
      (λ y e. rw (run_stops x (suc n) m y e, trace_stops n m y e) (sym (add-zero m.core.steps)))
      (λ e. rw (run_goes x n m e, trace_goes n m e) (run_steps n (step_of x m) ∙ ap (λ (k : ℕ). k + length (trace_of x n (step_of x m))) (step_counts x m) ∙ one_more _ _))

  pub run_cycles : (n : ℕ) (m : Machine) → (run_of x n m).machine.core.cycles ≡ m.core.cycles + cycles_in x (trace_of x n m)
  unfolding trace_of
  run_cycles zero m = rw (none_left x m) (sym (add-zero m.core.cycles))
  run_cycles (suc n) m =
      by_verdict (verdict_at x (suc n) m)
      (λ y e. rw (run_stops x (suc n) m y e, trace_stops n m y e) (sym (add-zero m.core.cycles)))
      (λ e. rw (run_goes x n m e, trace_goes n m e) (run_cycles n (step_of x m) ∙ ap (λ (k : ℕ). k + cycles_in x (trace_of x n (step_of x m))) (step_pays x m) ∙ add_assoc _ _ _))

  -- a run makes no more steps than its budget
  pub trace_fits : (n : ℕ) (m : Machine) → length (trace_of x n m) ≤ n
  unfolding trace_of
  trace_fits zero m = le_refl 0
  trace_fits (suc n) m =
      by_verdict (verdict_at x (suc n) m)
      (λ y e. rw (trace_stops n m y e) zero-le)
      (λ e. rw (trace_goes n m e) (suc-le-suc (trace_fits n (step_of x m))))
