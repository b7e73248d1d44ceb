-- The outcome of the call says each part.
use Rattle.demands.proofs.RunDemands.{run_first, run_second}
use Rattle.demands.proofs.run.Goals as goal

pub returns-clause-first : goal.returns-clause-first
returns-clause-first c = run_first _ _ _ _ _ c.cesca_run.ensures

pub returns-clause-second : goal.returns-clause-second
returns-clause-second c = run_second _ _ _ _ _ c.cesca_run.ensures
