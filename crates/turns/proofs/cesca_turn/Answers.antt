-- The outcome of the turn, part by part.
use Rattle.turns.proofs.Exports.{numbered}
use Rattle.turns.proofs.cesca_turn.Goals as goal

pub returns : goal.returns
returns c = numbered _ _ _ _ _ _ _ _ c.turn-report.ensures c.turn_numbers.ensures
