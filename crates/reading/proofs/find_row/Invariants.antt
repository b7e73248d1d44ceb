-- The rows before the one that is tried don't fit: each was tried, or begins with other bytes.
use Rattle.reading.proofs.Seeks.{Seeking}
use Rattle.reading.proofs.find_row.Given as goal

abbrev pub invariant-loop-row : goal.invariant-loop-row
invariant-loop-row l = Seeking l.line l.start l.row
