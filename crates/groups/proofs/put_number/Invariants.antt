-- A group a turn: what is left of the number, written from here, leaves the page of the whole.
use Rattle.pages.specs.Page.{page}
use Rattle.groups.proofs.Putting.{Putting}
use Rattle.groups.proofs.put_number.Given as goal

abbrev pub invariant-loop-rest : goal.invariant-loop-rest
invariant-loop-rest l = Putting l.n (page l.initial.out l.at) l.rest (page l.out l.next)

abbrev pub decreases-loop-rest : goal.decreases-loop-rest
decreases-loop-rest l = l.rest
