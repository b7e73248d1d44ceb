-- An address a turn: what is left, written from here, leaves the page of the whole.
use Rattle.pages.specs.Page.{page}
use Rattle.shelving.specs.internal.Lent.{lent}
use Rattle.shelving.proofs.RowsPut.{PutTo}
use Rattle.shelving.proofs.Parts.put_addresses.Given as goal

abbrev pub invariant-loop-a : goal.invariant-loop-a
invariant-loop-a l = PutTo (lent l.self) l.n (page l.initial.out l.at) l.a (page l.out l.next)
