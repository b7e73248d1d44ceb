-- A byte of the spelling a turn: what is left of it, filled and written from here, leaves the page of the whole.
use Rattle.pages.specs.Page.{page}
use Rattle.printing.proofs.Filling.{Filling}
use Rattle.printing.proofs.write_filled.Given as goal

abbrev pub invariant-loop-j : goal.invariant-loop-j
invariant-loop-j l = Filling l.k l.x (page l.initial.out l.at) l.j (page l.out l.next)
