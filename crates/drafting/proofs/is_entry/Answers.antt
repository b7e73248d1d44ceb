-- By the parts of the word.
use Rattle.drawings.specs.internal.Cells.{seen}
use Rattle.drawings.specs.internal.Drafts.{is_entry}
use Rattle.drafting.proofs.is_entry.Goals as goal

pub returns : goal.returns
unfolding is_entry seen
returns c = rw (c.unpack.ensures, c.word_of-w.ensures)
