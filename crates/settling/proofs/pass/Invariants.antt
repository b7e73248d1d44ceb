-- Each address comes once, whichever way; what is answered false has changed nothing.
use Rattle.drawings.specs.Reached.{banks}
use Rattle.settling.proofs.Passing.{PassInvariant}
use Rattle.settling.proofs.pass.Given as goal

abbrev pub invariant-loop-place : goal.invariant-loop-place
invariant-loop-place l = PassInvariant (banks l.opcodes l.arguments) l.up l.initial.cells l.cells l.changed l.place
