-- A byte a turn: what is left, written from here, leaves the page of the whole.
use Rattle.shelving.proofs.RowsPut.{bytes_go, bytes_put}
use Rattle.shelving.proofs.put_bytes.Goals as goal

pub loop-byte-preserved : goal.loop-byte-preserved
loop-byte-preserved c = bytes_go c.loop-byte.invariant c.loop-byte-test.true (rw c.from.ensures at c.put_number-next.ensures) c.put_number-next.auto.out

pub returns : goal.returns
returns c = bytes_put c.loop-byte.invariant c.loop-byte-test.false
