-- The call's rules are prechecked first; a call that passes them is run.
use mathlib.Core.Path.{refl, sym, ◌∙◌}
use Rattle.std.specs.Prelude.{Ok, Err}
use Rattle.busy_runs.proofs.Promises.{passed_sizes, promised}
use Rattle.busy.proofs.run_busy.Goals as goal

pub run_recorded-requires : goal.run_recorded-requires
run_recorded-requires c = passed_sizes _ _ (sym c.refusal-check.ensures ∙ c.in-Ok.is)

pub returns-in-Err : goal.returns-in-Err
returns-in-Err c = promised _ _ (Err _) _ (sym c.in-Err.is ∙ c.refusal-check.ensures) (rw c.refused.ensures refl)

pub returns-in-Ok : goal.returns-in-Ok
returns-in-Ok c = promised _ _ (Ok _) _ (sym c.in-Ok.is ∙ c.refusal-check.ensures) c.run_recorded.ensures
