-- A byte a turn: what is left, written from here, leaves the page of the whole.
use Rattle.pages.specs.Page.{page}
use Rattle.shelving.proofs.RowsPut.{PutBytes}
use Rattle.shelving.proofs.put_bytes.Given as goal

abbrev pub invariant-loop-byte : goal.invariant-loop-byte
invariant-loop-byte l = PutBytes l.bytes (page l.initial.out l.at) l.byte-index (page l.out l.next)
