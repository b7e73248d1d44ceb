use mathlib.Core.Path.{refl}
use Rattle.labels.proofs.Cuts.{line_turned, lines_over}
use Rattle.labels.proofs.LinesIterator.next.Goals as goal

pub returns-then-n-self-clause-steps : goal.returns-then-n-self-clause-steps
returns-then-n-self-clause-steps c = (lines_over _ _ c.if-n-self.true, refl)

pub returns-clause-steps : goal.returns-clause-steps
returns-clause-steps c = (line_turned _ _ _ _ c.if-n-self.false c.line_end-end.ensures.0 c.line_end-end.ensures.1 c.next_line-self.ensures.0, refl, refl, refl, refl)
