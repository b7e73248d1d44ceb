-- The number, then the place, then the line feed.
use Rattle.lines.specs.Lines.{refused_line}
use Rattle.pages.proofs.Pages.{texts_written, byte_written}
use Rattle.lines.proofs.refused_line.Goals as goal

pub returns : goal.returns
unfolding refused_line
returns c = byte_written 10 (texts_written c.write_numbered-after_number.ensures c.write_numbered-after_place.ensures) c.put.ensures
