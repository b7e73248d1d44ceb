-- Of each address that the loop has passed the list has what it says of it.
use Rattle.drafting.proofs.Entering.{Entering}
use Rattle.drafting.proofs.write_list.Given as goal

abbrev pub invariant-loop-a : goal.invariant-loop-a
invariant-loop-a l = Entering l.cells l.out l.n l.a
