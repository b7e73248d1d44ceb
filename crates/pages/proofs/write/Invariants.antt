-- A byte a turn: what is left of the text, written from here, leaves the page of the whole.
use Rattle.pages.specs.Page.{page}
use Rattle.pages.proofs.Pages.{Writing}
use Rattle.pages.proofs.write.Given as goal

abbrev pub invariant-loop-x : goal.invariant-loop-x
invariant-loop-x l = Writing l.text (page l.initial.out l.at) l.x-index (page l.out l.next)
