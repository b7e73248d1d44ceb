-- The two bytes as one number.
use Rattle.sheets.specs.internal.Words.{word_of}
use Rattle.sheets.proofs.word_at.Goals as goal

pub returns : goal.returns
unfolding word_of
returns c = rw (c.parts.ensures, c.from-high.ensures, c.byte_at-2.ensures, c.from-low.ensures, c.byte_at.ensures, c.from-i.ensures)
