-- The line's parts, one behind another.
use Rattle.pages.specs.Page.{page}
use Rattle.paging.proofs.Line.{line_written, text_narrow}
use Rattle.paging.proofs.write_line.Goals as goal

pub returns : goal.returns
returns c =
    let a = c.args in
    let op = c.load.ensures in
    let arg = c.load-2.ensures in (
      line_written a.opcodes.now a.arguments.now a.counters.now a.a (page a.out.now a.at) op arg (rw c.from.ensures at c.count_at-count.ensures)
          c.text_columns-text.ensures.0 c.write_hex-next.ensures c.put-next.ensures c.write_right-next.ensures
          c.put-next-2.ensures c.write-next.ensures c.put.ensures,
      text_narrow a.opcodes.now a.arguments.now a.counters.now a.a op arg c.text_columns-text.ensures.1,
    )
