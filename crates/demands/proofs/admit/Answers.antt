-- What admission promises, for a list from any start.
use Rattle.demands.proofs.ListDemand.{list_demand}
use Rattle.demands.proofs.admit.Goals as goal

pub returns-clause-third : goal.returns-clause-third
returns-clause-third c = list_demand _ _ c.cesca_admit.ensures
