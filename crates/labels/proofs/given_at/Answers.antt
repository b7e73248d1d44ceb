-- A line a turn, from the entry of the name's number on: none before it gives the name.
use mathlib.Core.Path.{sym, ap, ◌∙◌}
use Rattle.labels.specs.internal.Search.{unless_zero}
use Rattle.labels.proofs.Cuts.{given, over}
use Rattle.labels.proofs.Numbered.{no_number}
use Rattle.labels.proofs.Searches.{look_hits, look_goes, look_ends}
use Rattle.labels.proofs.given_at.Goals as goal

pub returns-then-gives : goal.returns-then-gives
returns-then-gives c =
    let g = given c.loop-line.line-iterator c.next.new.self c.loop-line.invariant.0 c.in-Some.line c.in-Some.ensures.steps in
    c.line_number.ensures ∙ ap unless_zero (g.2 ∙ look_hits c.loop-line.invariant.1 g.0 (sym c.gives.ensures ∙ c.if-gives.true))

pub loop-line-preserved : goal.loop-line-preserved
loop-line-preserved c =
    let g = given c.loop-line.line-iterator c.next.new.self c.loop-line.invariant.0 c.in-Some.line c.in-Some.ensures.steps in
    (g.3, rw g.4 (look_goes c.loop-line.invariant.1 g.0 (sym c.gives.ensures ∙ c.if-gives.false)))

pub returns : goal.returns
returns c = no_number (look_ends c.loop-line.invariant.1 (over c.loop-line.line-iterator c.next.new.self c.loop-line.invariant.0 c.in-None.ensures.steps))
