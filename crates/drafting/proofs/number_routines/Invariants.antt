-- The count is the rank of the address that the loop has come to.
use Rattle.drafting.proofs.Numbering.{Numbering}
use Rattle.drafting.proofs.number_routines.Given as goal

abbrev pub invariant-loop-a : goal.invariant-loop-a
invariant-loop-a l = Numbering l.cells l.numbers l.routines l.a
