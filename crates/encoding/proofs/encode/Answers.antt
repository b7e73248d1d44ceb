-- The row is joined; acceptance, refusals and the way back are laws of the table.
use mathlib.Core.Path.{ap, ◌∙◌}
use Rattle.isa.specs.Encode.{join_of, encode_of}
use Rattle.isa.proofs.Promises.{encodes}
use Rattle.encoding.proofs.encode.Goals as goal

pub returns : goal.returns
unfolding encode_of
returns c = encodes c.args.instr _ (c.join.ensures ∙ ap join_of c.layout.ensures)
