-- How a run goes on: it ends at a stop, and else goes on with one step less; a halted machine stays; a run in two parts.
-- Assumes nothing.
use mathlib.Core.Path.{◌≡◌, refl, ap, ◌∙◌}
use mathlib.Core.Bool.{true, cond}
use Prim.Native.Nat.{ℕ, zero, suc, ◌+◌}
use native.Mathlib.Nat.{suc-add, zero-add, add-zero}
use lib.Dec.{eqb-suc-zero}
use Rattle.std.specs.Prelude.{Option, Some, None}
use Rattle.slices.proofs.Bools.{by_test}
use Rattle.model.specs.Run.{Ended, ended, verdict_of, verdict_at, run_of}
use Rattle.model.specs.Step.{Setting, Machine, step_of}
use Rattle.model.specs.declared.Stop.{Stop}
use Rattle.model.specs.declared.Stop.TheVariants.{Halted, Spent}

-- by the two cases of a verdict, with the equation
pub by_verdict {ℓ} : {A : Type ℓ} (v : Option Stop) → ((y : Stop) → v ≡ Some y → A) → (v ≡ None → A) → A
by_verdict (Some y) f g = f y refl
by_verdict None f g = g refl

module _ (x : Setting) where
  pub run_stops : (n : ℕ) (m : Machine) (y : Stop) → verdict_at x n m ≡ Some y → run_of x n m ≡ ended y m
  unfolding run_of
  run_stops zero m y e = rw (e, run_of)
  run_stops (suc n) m y e = rw (e, run_of)

  pub run_goes : (n : ℕ) (m : Machine) → verdict_at x (suc n) m ≡ None → run_of x (suc n) m ≡ run_of x n (step_of x m)
  unfolding run_of
  run_goes n m e = rw (e, run_of)

  -- 01: "A halted state run again gives halted, 0 steps": the run ends where it stands
  pub halted_stays : (n : ℕ) (m : Machine) → m.core.state.halted ≡ true → run_of x n m ≡ ended Halted m
  unfolding verdict_of
  halted_stays n m h = run_stops n m Halted (rw h)

  -- with no budget left: halted, else spent
  pub none_left : (m : Machine) → run_of x 0 m ≡ ended (cond m.core.state.halted Halted Spent) m
  unfolding verdict_of
  none_left m =
      by_test m.core.state.halted
      (λ h. halted_stays 0 m h ∙ rw h)
      (λ h. run_stops 0 m Spent (rw h) ∙ rw h)

  -- how much budget is left does not matter, where some is
  pub some_left : (n k : ℕ) (m : Machine) → verdict_at x (suc n) m ≡ verdict_at x (suc k) m
  unfolding verdict_of
  some_left n k m = rw (eqb-suc-zero n, eqb-suc-zero k)

  -- a run of j steps, and then of at least one more from where it ended: a stop that ended the first ends the second at once
  pub runs_on : (j n : ℕ) (m : Machine) → run_of x (j + suc n) m ≡ run_of x (suc n) (run_of x j m).machine
  runs_on zero n m = rw (zero-add (suc n), none_left m)
  runs_on (suc j) n m =
      by_verdict (verdict_at x (suc j) m)
      (λ y e.
      rw (
        suc-add j (suc n),
        run_stops (suc (j + suc n)) m y (some_left (j + suc n) j m ∙ e),
        run_stops (suc j) m y e,
        run_stops (suc n) m y (some_left n j m ∙ e),
      ))
      (λ e. rw (suc-add j (suc n), run_goes (j + suc n) m (some_left (j + suc n) j m ∙ e), run_goes j m e) (runs_on j n (step_of x m)))

  -- what it leaves, without a case on the stop
  pub machine_runs_on : (j n : ℕ) (m : Machine) → (run_of x (j + n) m).machine ≡ (run_of x n (run_of x j m).machine).machine
  machine_runs_on j zero m = rw (add-zero j, none_left (run_of x j m).machine)
  machine_runs_on j (suc n) m = ap (λ (e : Ended). e.machine) (runs_on j n m)
