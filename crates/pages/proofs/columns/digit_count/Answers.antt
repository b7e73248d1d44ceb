-- Each turn counts the last digit of what is left.
use native.Mathlib.Omega.{arith}
use Rattle.pages.proofs.Alignment.{count_goes, count_fits, count_ends}
use Rattle.pages.proofs.columns.digit_count.Goals as goal

pub overflow_add-count : goal.overflow_add-count
overflow_add-count c = record { fits = omega (arith, count_fits c.loop-rest.invariant c.ranges.n.fits c.loop-rest-test.true) }

pub loop-rest-preserved : goal.loop-rest-preserved
loop-rest-preserved c = count_goes c.loop-rest.invariant c.loop-rest-test.true

pub returns : goal.returns
returns c = count_ends c.loop-rest.invariant c.loop-rest-test.false
