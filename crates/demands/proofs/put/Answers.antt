-- The two bytes, or the banks as they were.
use Rattle.demands.proofs.Trips.{put_first}
use Rattle.demands.proofs.put.Goals as goal

pub returns : goal.returns
returns c = put_first _ _ _ _ _ _ _ c.cesca_put.ensures
