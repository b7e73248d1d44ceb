-- A byte a turn: those passed are not the last group.
use Rattle.groups.proofs.Places.{Passing}
use Rattle.groups.proofs.last_group.Given as goal

abbrev pub invariant-loop-i : goal.invariant-loop-i
invariant-loop-i l = Passing l.file l.at l.i
