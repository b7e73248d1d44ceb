-- What an attempt at a step tells: its verdict, and the step made, or nothing.
-- Assumes nothing.
use mathlib.Core.Path.{◌≡◌, sym, ap, ◌∙◌}
use Prim.Native.Nat.{ℕ}
use Rattle.std.specs.Prelude.{Option, Some, None}
use Rattle.isa.specs.Table.{cycles_of}
use Rattle.model.specs.Run.{verdict_at, Attempt, attempt, attempt_of}
use Rattle.model.specs.Step.{Setting, Machine, next_instr, step_of}
use Rattle.model.specs.declared.Stop.{Stop}
use Rattle.model.proofs.Runs.{by_verdict}

module _ (x : Setting) (m m' : Machine) (v : Option Stop) (n : ℕ) (a : attempt v n m' ≡ attempt_of x m) where
  pub attempt_verdict : v ≡ verdict_at x 1 m
  unfolding attempt_of
  attempt_verdict =
      by_verdict (verdict_at x 1 m)
      (λ y e. let q = rw e at a in ap (λ (t : Attempt). t.verdict) q ∙ sym e)
      (λ e. let q = rw e at a in ap (λ (t : Attempt). t.verdict) q ∙ sym e)

  pub attempt_made : v ≡ None → (m' ≡ step_of x m) × (n ≡ cycles_of (next_instr x m))
  unfolding attempt_of
  attempt_made q =
      let b = rw (← attempt_verdict, q) at a in (ap (λ (t : Attempt). t.machine) b, ap (λ (t : Attempt). t.cycles) b)

  pub attempt_prevented : (y : Stop) → v ≡ Some y → (m' ≡ m) × (n ≡ 0)
  unfolding attempt_of
  attempt_prevented y q =
      let b = rw (← attempt_verdict, q) at a in (ap (λ (t : Attempt). t.machine) b, ap (λ (t : Attempt). t.cycles) b)
