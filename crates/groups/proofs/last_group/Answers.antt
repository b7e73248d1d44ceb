-- A byte a turn: those passed are not the last group.
use Rattle.groups.proofs.Places.{pass_here, pass_next, pass_ends}
use Rattle.groups.proofs.last_group.Goals as goal

pub returns-then-file-i-lt128 : goal.returns-then-file-i-lt128
returns-then-file-i-lt128 c = pass_here c.loop-i.invariant c.loop-i-test.true c.if-file-i-lt128.true

pub loop-i-preserved : goal.loop-i-preserved
loop-i-preserved c = pass_next c.loop-i.invariant c.loop-i-test.true c.if-file-i-lt128.false

pub returns : goal.returns
returns c = pass_ends c.loop-i.invariant c.loop-i-test.false
