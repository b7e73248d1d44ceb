-- The leader of the addresses passed is the definition's first.
use Rattle.ranking.proofs.Scanning.{Leading}
use Rattle.ranking.proofs.next_after.Given as goal

abbrev pub invariant-loop-a : goal.invariant-loop-a
invariant-loop-a l = Leading l.counters l.address l.a l.best
