-- A letter a turn.
use Rattle.labels.proofs.Indexes.{hash_goes, hash_ends}
use Rattle.labels.proofs.hash.Goals as goal

pub loop-c-preserved : goal.loop-c-preserved
loop-c-preserved c = rw c.from.ensures (hash_goes c.loop-c.invariant c.loop-c-test.true)

pub returns : goal.returns
returns c = hash_ends c.loop-c.invariant c.loop-c-test.false
