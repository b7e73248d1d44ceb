-- Text and need, then the line feed.
use Rattle.lines.specs.Lines.{admitted_line}
use Rattle.pages.proofs.Pages.{byte_written}
use Rattle.lines.proofs.admitted_line.Goals as goal

pub returns : goal.returns
unfolding admitted_line
returns c = byte_written 10 (rw c.from.ensures at c.write_numbered-after_need.ensures) c.put.ensures
