-- An address a turn: what is left, judged from here, gives the answer of the whole.
use Rattle.groups.proofs.Readings.{handed_on}
use Rattle.checking.proofs.Walking.{walk_stops, walk_goes, walk_ends}
use Rattle.checking.proofs.judging.judge_addresses.Goals as goal

pub returns-in_err-address : goal.returns-in_err-address
returns-in_err-address c =
    rw (handed_on c.from_residual.result c.from_residual.ensures.1) (walk_stops c.loop.invariant c.loop-test.true c.in_err-address.ensures)

pub loop-preserved : goal.loop-preserved
loop-preserved c =
    let z = c.default.ensures in
    rw (c.eq-blank.ensures, z.0, z.1.0, z.1.1) (walk_goes c.loop.invariant c.loop-test.true c.in_ok-address.ensures)

pub returns : goal.returns
returns c = walk_ends c.loop.invariant c.loop-test.false
