-- By whether the word is reached.
use borrow.Author.Tests.{lt-ltb, le-ltb}
use Rattle.drawings.specs.internal.Cells.{seen, merged}
use Rattle.cells.proofs.merge.Goals as goal

pub returns-then-w-gt0 : goal.returns-then-w-gt0
unfolding merged seen
returns-then-w-gt0 c = rw (c.pack.ensures, c.join.ensures, c.unpack.ensures) (simp (lt-ltb _ _ c.if-w-gt0.true))

pub returns-else-w-gt0 : goal.returns-else-w-gt0
unfolding merged seen
returns-else-w-gt0 c = rw c.pack-else-w-gt0.ensures (simp (le-ltb _ _ c.if-w-gt0.false))
