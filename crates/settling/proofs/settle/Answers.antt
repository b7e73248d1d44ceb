-- Passes fall in weight until one changes nothing.
use Rattle.settling.proofs.Passing.{start_visits}
use Rattle.settling.proofs.settle.Goals as goal

pub pass-changed-requires : goal.pass-changed-requires
pass-changed-requires c = start_visits c.requires
