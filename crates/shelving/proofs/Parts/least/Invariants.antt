-- An address a turn, from the last on: those passed are blank.
use Rattle.shelving.specs.internal.Lent.{lent}
use Rattle.shelving.proofs.Counting.{Counting}
use Rattle.shelving.proofs.Parts.least.Given as goal

abbrev pub invariant-loop-a : goal.invariant-loop-a
invariant-loop-a l = Counting (lent l.self) l.a
