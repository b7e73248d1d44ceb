-- A byte a turn: those before it are filled, and the others stand from `next` on.
use Rattle.opening.proofs.ListFilled.{ListFilling}
use Rattle.opening.proofs.fill_bytes.Given as goal

abbrev pub invariant-loop-i : goal.invariant-loop-i
invariant-loop-i l = ListFilling l.file l.at l.m l.i l.next l.list
