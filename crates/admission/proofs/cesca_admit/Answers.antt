-- The stages compute admission, and the two demands hold of it.
use Rattle.std.proofs.Common.{◌∙◌}
use Rattle.rules.specs.Sheet.{listing}
use Rattle.admission.proofs.Answer.{admission}
use Rattle.admission.proofs.cesca_admit.Goals as goal

pub returns : goal.returns
returns c = let a = c.args in admission (listing a.opcodes.now a.arguments.now a.sheet.now a.list.now) (λ i. (c.type_inv.list i).fits) c.answer.result (c.answer.ensures ∙ c.admit.ensures)
