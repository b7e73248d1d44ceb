-- An address a turn: those before it are filled, and the numbers of the others stand from `next` on.
use Rattle.opening.proofs.AddressesFilled.{Filling}
use Rattle.opening.proofs.fill_addresses.Given as goal

abbrev pub invariant-loop-a : goal.invariant-loop-a
invariant-loop-a l = Filling l.file l.at l.n l.a l.next l.opcodes l.arguments l.sheet
