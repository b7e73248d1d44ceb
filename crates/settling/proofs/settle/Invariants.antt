-- Passes fall in weight until one changes nothing.
use Rattle.drawings.specs.Reached.{banks}
use Rattle.settling.proofs.Passing.{SettleInvariant, left}
use Rattle.settling.proofs.settle.Given as goal

abbrev pub invariant-loop-changed : goal.invariant-loop-changed
invariant-loop-changed l = SettleInvariant (banks l.opcodes l.arguments) l.cells l.changed

abbrev pub decreases-loop-changed : goal.decreases-loop-changed
decreases-loop-changed l = left l.cells l.changed
