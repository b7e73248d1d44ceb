-- The stop's word, the four numbers behind their texts, then the line feed.
use Rattle.lines.specs.Lines.{run_line}
use Rattle.pages.proofs.Pages.{texts_written, byte_written}
use Rattle.lines.proofs.run_line.Goals as goal

pub returns : goal.returns
unfolding run_line
returns c =
    byte_written 10
    (texts_written
    (texts_written
    (texts_written
    (texts_written c.write_stop-after_stop.ensures c.write_numbered-after_steps.ensures)
    c.write_numbered-after_cycles.ensures)
    (rw c.from.ensures at c.write_numbered-after_output.ensures))
    (rw c.from-2.ensures at c.write_numbered-after_sp.ensures))
    c.put.ensures
