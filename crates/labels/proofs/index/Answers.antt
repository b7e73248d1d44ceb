-- A line a turn is entered.
use mathlib.Core.Path.{refl}
use Rattle.labels.proofs.Cuts.{given, over}
use Rattle.labels.proofs.Indexes.{index_starts, index_goes, index_ends}
use Rattle.labels.proofs.index.Goals as goal

pub loop-line-init : goal.loop-line-init
loop-line-init c = let o = c.of-line-items.ensures in rw (c.into_iter-line-iterator.ensures.into_iter_gives, o.0, o.1, o.2) (refl, index_starts c.requires)

pub loop-line-preserved : goal.loop-line-preserved
loop-line-preserved c =
    let g = given c.loop-line.line-iterator c.next.new.self c.loop-line.invariant.0 c.in-Some.line c.in-Some.ensures.steps in
    (g.3, rw (g.4, c.enter.ensures.0, c.enter.ensures.1, g.1, g.2) (index_goes c.loop-line.invariant.1 g.0))

pub returns : goal.returns
returns c = index_ends c.loop-line.invariant.1 (over c.loop-line.line-iterator c.next.new.self c.loop-line.invariant.0 c.in-None.ensures.steps)
