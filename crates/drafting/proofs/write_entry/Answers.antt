-- By the two cases of the test.
use Rattle.drafting.specs.internal.Writing.{rank_after, list_after}
use Rattle.drafting.proofs.write_entry.Goals as goal

pub returns-then-is_entry : goal.returns-then-is_entry
unfolding rank_after list_after
returns-then-is_entry c = (rw (← c.is_entry.ensures, c.if-is_entry.true), rw (c.store-then-is_entry.ensures, c.store.ensures, c.unpack-c.ensures, c.word_of.ensures, ← c.is_entry.ensures, c.if-is_entry.true))

pub returns : goal.returns
unfolding rank_after list_after
returns c = (rw (← c.is_entry.ensures, c.if-is_entry.false), rw (← c.is_entry.ensures, c.if-is_entry.false))
