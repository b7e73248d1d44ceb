-- By the parts of the word.
use Rattle.std.proofs.Common.{arith, refl}
use Rattle.drawings.specs.internal.Cells.{seen, has}
use Rattle.cells.proofs.satisfies.Goals as goal

pub returns : goal.returns
unfolding has seen
returns c = (rw c.unpack-c.ensures refl, omega arith)
