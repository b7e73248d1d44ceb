-- By the two cases of the test.
use Rattle.drafting.specs.internal.Writing.{rank_after}
use Rattle.drafting.proofs.count_entry.Goals as goal

pub returns-then-is_entry : goal.returns-then-is_entry
unfolding rank_after
returns-then-is_entry c = rw (← c.is_entry.ensures, c.if-is_entry.true)

pub returns-else-is_entry : goal.returns-else-is_entry
unfolding rank_after
returns-else-is_entry c = rw (← c.is_entry.ensures, c.if-is_entry.false)
