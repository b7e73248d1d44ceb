-- The equation of the step's contract says each part.
use Rattle.demands.proofs.StepDemand.{step_demand}
use Rattle.demands.proofs.step.Goals as goal

pub returns : goal.returns
returns c = step_demand _ _ _ _ _ c.step.ensures.0
