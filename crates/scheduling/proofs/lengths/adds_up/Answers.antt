-- A length over what is left: the sum is over the total. Once every length is taken off, nothing is left where they add up.
use Rattle.scheduling.proofs.Sums.{begin_is, left_short, left_ends}
use Rattle.scheduling.proofs.lengths.adds_up.Goals as goal

pub returns-in_default : goal.returns-in_default
returns-in_default c = rw begin_is (left_short _ _ _ _ c.loop-length.invariant c.loop-length-test.true c.in_default.ensures)

pub returns : goal.returns
returns c = rw begin_is (left_ends _ _ _ _ c.loop-length.invariant c.loop-length-test.false)
