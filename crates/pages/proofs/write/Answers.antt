-- A byte a turn: what is left of the text, written from here, leaves the page of the whole.
use Rattle.pages.proofs.Pages.{write_goes, write_ends}
use Rattle.pages.proofs.write.Goals as goal

pub loop-x-preserved : goal.loop-x-preserved
loop-x-preserved c = write_goes c.loop-x.invariant c.loop-x-test.true c.put-next.ensures c.put-next.auto.out

pub returns : goal.returns
returns c = write_ends c.loop-x.invariant c.loop-x-test.false
