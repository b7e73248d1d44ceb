-- The word had what is asked, or it has it now.
use mathlib.Core.Path.{sym, ap, ◌∙◌}
use Prim.Native.Nat.{ℕ}
use Rattle.drawings.specs.internal.Cells.{has}
use Rattle.cells.proofs.Meeting.{met_already, met_now}
use Rattle.cells.proofs.meet.Goals as goal

pub returns-then-satisfies : goal.returns-then-satisfies
returns-then-satisfies c = let a = c.args in met_already a.cells.now a.at a.want c.requires (ap (λ (w : ℕ). has w a.want) (sym c.word_of-w.ensures) ∙ sym c.satisfies.ensures.0 ∙ c.if-satisfies.true)

pub returns : goal.returns
returns c = let a = c.args in rw (c.from.ensures, c.merge.ensures, c.word_of-w.ensures) (met_now a.cells.now a.at a.want c.requires c.ranges.at.fits c.satisfies.ensures.1 (ap (λ (w : ℕ). has w a.want) (sym c.word_of-w.ensures) ∙ sym c.satisfies.ensures.0 ∙ c.if-satisfies.false))
