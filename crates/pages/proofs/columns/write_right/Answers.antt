-- A space a turn up to the digits, and the number behind them.
use Rattle.pages.proofs.Alignment.{align_goes, align_ends}
use Rattle.pages.proofs.columns.write_right.Goals as goal

pub loop-column-preserved : goal.loop-column-preserved
loop-column-preserved c = align_goes c.loop-column.invariant c.loop-column-test.true c.put-next.ensures c.put-next.auto.out

pub returns : goal.returns
returns c = align_ends c.loop-column.invariant c.loop-column-test.false c.write_decimal.ensures.text.left
