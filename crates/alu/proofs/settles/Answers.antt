-- What `alu` gives at zero operands says it.
use Rattle.std.proofs.Common.{ap, ◌∙◌}
use Rattle.alu.specs.Alu.{is_settled, settles_of}
use Rattle.alu.specs.declared.Computed.{Computed}
use Rattle.alu.proofs.settles.Goals as goal

pub returns : goal.returns
unfolding settles_of
returns c = c.is_settled.ensures ∙ ap (λ (r : Computed). is_settled r.flags.v) c.alu.ensures.table
