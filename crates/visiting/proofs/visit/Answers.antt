-- By whether the address is reached.
use Rattle.std.proofs.Common.{sym, ap, ◌∙◌}
use Rattle.drawings.specs.internal.Cells.{cell_in}
use Rattle.visiting.proofs.Demanded.{not_reached, reached}
use Rattle.visiting.proofs.visit.Goals as goal

pub returns-then-w-eq0 : goal.returns-then-w-eq0
returns-then-w-eq0 c = let a = c.args in not_reached _ a.cells.now a.a c.requires (sym c.word_of-w.ensures ∙ c.if-w-eq0.true)

pub returns : goal.returns
returns c = let a = c.args in reached _ a.cells.now a.a c.unpack-c.result c.class_at-class.result (λ z. c.if-w-eq0.false (c.word_of-w.ensures ∙ z)) (c.unpack-c.ensures ∙ ap cell_in c.word_of-w.ensures) c.class_at-class.ensures c.room-need.ensures c.meet-own.ensures c.entry_cell.ensures c.meet_callee-called.ensures c.meet_successors-followed.ensures
