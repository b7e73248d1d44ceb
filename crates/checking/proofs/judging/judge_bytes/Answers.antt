-- A byte a turn: what is left, judged from here, gives the answer of the whole.
use Rattle.groups.proofs.Readings.{handed_on}
use Rattle.checking.proofs.Walking.{step_stops, step_goes, step_ends}
use Rattle.checking.proofs.judging.judge_bytes.Goals as goal

pub returns-in_err-behind : goal.returns-in_err-behind
returns-in_err-behind c =
    rw (handed_on c.from_residual.result c.from_residual.ensures.1) (step_stops c.loop.invariant c.loop-test.true c.in_err-behind.ensures)

pub loop-preserved : goal.loop-preserved
loop-preserved c = step_goes c.loop.invariant c.loop-test.true c.in_ok-behind.ensures

pub returns : goal.returns
returns c = step_ends c.loop.invariant c.loop-test.false
