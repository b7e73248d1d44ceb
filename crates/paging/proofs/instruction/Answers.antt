-- The fields are cut from the bytes, and the form is the table's.
use mathlib.Core.Path.{◌∙◌}
use Rattle.paging.proofs.Forms.{instruction_found}
use Rattle.paging.proofs.instruction.Goals as goal

pub returns : goal.returns
returns c = (rw c.from.ensures at c.from-2.ensures) ∙ instruction_found c.args.opcode c.args.argument c.ranges.opcode.fits c.low_pair.ensures c.low_pair-2.ensures c.low_pair-3.ensures
