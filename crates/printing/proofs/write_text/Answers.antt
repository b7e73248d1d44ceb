-- The row's spelling, filled with the form's fields.
use Rattle.printing.specs.Print.{text_of}
use Rattle.printing.proofs.write_text.Goals as goal

pub returns : goal.returns
unfolding text_of
returns c = rw (← c.from-x.ensures, ← c.row.ensures) c.write_filled.ensures
