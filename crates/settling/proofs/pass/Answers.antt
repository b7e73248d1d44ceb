-- Each address comes once, whichever way; what is answered false has changed nothing.
use native.Mathlib.Omega.{arith}
use Rattle.settling.proofs.Passing.{pass_on, pass_end}
use Rattle.settling.proofs.pass.Goals as goal

pub loop-place-preserved : goal.loop-place-preserved
loop-place-preserved c = pass_on c.loop-place.invariant (omega arith) c.turn.ensures c.visit-changed.ensures

pub returns-2 : goal.returns-2
returns-2 c = pass_end (pass_on c.loop-place.invariant (omega arith) c.turn.ensures c.visit-changed.ensures) (omega arith)
