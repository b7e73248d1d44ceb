-- An impossible address refutes every sheet.
use mathlib.Core.Path.{ap, ◌∙◌}
use Rattle.drawings.specs.internal.Cells.{cell_in}
use Rattle.settling.proofs.Hindrances.{hindered}
use Rattle.settling.proofs.hinders.Goals as goal

pub returns : goal.returns
returns c = let a = c.args in hindered _ a.cells.now a.a c.class_at.result c.unpack.result _ c.requires (λ z. c.if-w-eq0.false (c.word_of-w.ensures ∙ z)) c.class_at.ensures (c.unpack.ensures ∙ ap cell_in c.word_of-w.ensures) c.is_impossible.ensures
