-- The call's rules are prechecked first; a call that passes them is the run of its steps.
use mathlib.Core.Path.{◌≡◌, sym, ap, ◌∙◌, subst}
use Rattle.std.specs.Prelude.{Result, Ok, Err}
use Rattle.model.specs.Run.{Call, Outcome, refusal_of, outcome_by, call_of}
use Rattle.model.specs.RunPromise.{RunPromise}
use Rattle.model.specs.declared.Refusal.{Refusal}
use Rattle.model.proofs.Promises.{run_promise, passed_budget}
use Rattle.machine.proofs.run.Goals as goal

-- the outcome of a call by what its rules say
promised : (c : Call) (v : Result (Unit {0}) Refusal) (o : Outcome) → v ≡ refusal_of c → o ≡ outcome_by v c → RunPromise c o
unfolding call_of
promised c v o q e = subst (RunPromise c) (ap (λ (p : Result (Unit {0}) Refusal). outcome_by p c) (sym q) ∙ sym e) (run_promise c)

pub run_steps-requires : goal.run_steps-requires
run_steps-requires c = passed_budget _ (sym c.refusal-check.ensures ∙ c.in-Ok.is)

pub returns-in-Err : goal.returns-in-Err
returns-in-Err c = promised _ (Err _) _ (sym c.in-Err.is ∙ c.refusal-check.ensures) (rw c.refused.ensures)

pub returns-in-Ok : goal.returns-in-Ok
returns-in-Ok c = promised _ (Ok _) _ (sym c.in-Ok.is ∙ c.refusal-check.ensures) (rw c.from.ensures c.run_steps.ensures)
