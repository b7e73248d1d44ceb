-- The test is the definition's.
use mathlib.Core.Path.{refl}
use Rattle.ranking.specs.Busier.{precedes}
use Rattle.ranking.proofs.precedes.Goals as goal

pub returns : goal.returns
unfolding precedes
returns c = refl
