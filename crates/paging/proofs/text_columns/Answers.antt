-- The printed text of what the bytes decode to.
use Rattle.paging.proofs.Line.{decoded_text}
use Rattle.paging.proofs.text_columns.Goals as goal

pub returns : goal.returns
returns c = decoded_text c.ranges.opcode.fits c.ranges.argument.fits c.instruction.ensures c.print-printed.ensures
