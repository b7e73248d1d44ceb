-- The second demand of a step, from the equation that the step's contract is.
-- Assumes nothing.
use mathlib.Core.Path.{◌≡◌, ap}
use Prim.Native.Nat.{ℕ}
use Rattle.std.specs.Prelude.{Option, None}
use Rattle.model.specs.Run.{verdict_of, attempt, attempt_of}
use Rattle.model.specs.Step.{Setting, Machine, instr_at, applied_of, step_of}
use Rattle.model.specs.declared.Stop.{Stop}
use Rattle.model.proofs.Attempt.{attempt_verdict, attempt_made, attempt_prevented}
use Rattle.demands.specs.Second.{SecondOfStep}

pub step_demand : (x : Setting) (m m' : Machine) (v : Option Stop) (n : ℕ) → attempt v n m' ≡ attempt_of x m → SecondOfStep x m v n m'
unfolding verdict_of step_of applied_of instr_at
step_demand x m m' v n a =
    let made : v ≡ None → m' ≡ step_of x m = λ q. (attempt_made x m m' v n a q).0 in
    record {
      verdict = attempt_verdict x m m' v n a;
      state = λ q. ap (λ (k : Machine). k.core.state) (made q);
      data_bank = λ q. ap (λ (k : Machine). k.core.ram) (made q);
      stack_bank = λ q. ap (λ (k : Machine). k.stack) (made q);
      display = λ q. ap (λ (k : Machine). k.core.roll) (made q);
      display_words = λ q. ap (λ (k : Machine). k.core.words) (made q);
      cycles_are = λ q. (attempt_made x m m' v n a q).1;
      prevented = λ y q. attempt_prevented x m m' v n a y q;
    }
