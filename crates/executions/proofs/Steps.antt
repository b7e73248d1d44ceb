-- The executed addresses of a run, step by step: as many as its steps, and no more than its budget.
-- Assumes nothing.
use Prim.Native.Nat.{ℕ, zero, suc, ◌+◌, ◌≤◌}
use mathlib.Core.Path.{◌≡◌, refl, sym, ap, ◌∙◌}
use mathlib.Core.Bool.{true}
use mathlib.Core.List.{List, [], ◌∷◌}
use native.Mathlib.Nat.{zero-add}
use native.Mathlib.Omega.{arith}
use lib.ListN.{length}
use Rattle.std.specs.Prelude.{Some, None}
use Rattle.slices.specs.Lists.{mapped}
use Rattle.model.specs.Run.{run_of, trace_of, verdict_of, verdict_at}
use Rattle.model.specs.Step.{Setting, Machine, step_of}
use Rattle.model.specs.declared.Stop.{Stop}
use Rattle.model.specs.declared.Stop.TheVariants.{Halted}
use Rattle.model.proofs.Traces.{trace_stops, trace_goes, trace_fits, run_steps}
use Rattle.executions.specs.Executed.{address_of, executed_of}

as_long : {A B : Type 0} (f : A → B) (l : List A) → length (mapped f l) ≡ length l
as_long f [] = refl
as_long f (x ∷ l) = ap suc (as_long f l)

module _ (x : Setting) where
  pub executed_goes : (n : ℕ) (m : Machine) → verdict_at x (suc n) m ≡ None → executed_of x (suc n) m ≡ address_of m ∷ executed_of x n (step_of x m)
  unfolding executed_of
  executed_goes n m e = ap (mapped address_of) (trace_goes x n m e)

  pub executed_stops : (n : ℕ) (m : Machine) (y : Stop) → verdict_at x (suc n) m ≡ Some y → executed_of x (suc n) m ≡ []
  unfolding executed_of
  executed_stops n m y e = ap (mapped address_of) (trace_stops x n m y e)

  pub executed_none : (m : Machine) → executed_of x 0 m ≡ []
  unfolding executed_of trace_of
  executed_none m = refl

  pub executed_halted : (n : ℕ) (m : Machine) → m.core.state.halted ≡ true → executed_of x n m ≡ []
  unfolding verdict_of
  executed_halted zero m h = executed_none m
  executed_halted (suc n) m h = executed_stops n m Halted (rw h)

  pub executed_fits : (n : ℕ) (m : Machine) → length (executed_of x n m) ≤ n
  unfolding executed_of
  executed_fits n m = omega (arith, trace_fits x n m, as_long address_of (trace_of x n m))

  pub executed_steps : (n : ℕ) (m : Machine) → m.core.steps ≡ 0 → (run_of x n m).machine.core.steps ≡ length (executed_of x n m)
  unfolding executed_of
  executed_steps n m z =
      run_steps x n m
      ∙ ap (λ (j : ℕ). j + length (trace_of x n m)) z
      ∙ zero-add (length (trace_of x n m))
      ∙ sym (as_long address_of (trace_of x n m))
