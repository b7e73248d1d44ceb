-- An address a turn: what is left, written from here, leaves the page of the whole.
use Rattle.shelving.proofs.RowsPut.{to_goes, to_ends}
use Rattle.shelving.proofs.Parts.put_addresses.Goals as goal

pub loop-a-preserved : goal.loop-a-preserved
loop-a-preserved c = to_goes c.loop-a.invariant c.loop-a-test.true c.put_address-next.ensures c.put_address-next.auto.out

pub returns : goal.returns
returns c = to_ends c.loop-a.invariant c.loop-a-test.false
