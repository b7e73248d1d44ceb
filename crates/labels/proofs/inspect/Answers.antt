-- A line a turn: all before it are good, their words are counted, and their addresses are noted.
use mathlib.Core.Path.{refl}
use Rattle.labels.proofs.Cuts.{given, over}
use Rattle.labels.proofs.Numbered.{number_told, none_told, none_there}
use Rattle.labels.proofs.Inspects.{inspect_starts, inspect_hits, inspect_goes, inspect_ends}
use Rattle.labels.proofs.inspect.Goals as goal

pub loop-line-init : goal.loop-line-init
loop-line-init c = let o = c.of-line-items.ensures in rw (c.into_iter-line-iterator.ensures.into_iter_gives, o.0, o.1, o.2) (refl, inspect_starts c.requires.1)

pub returns-in_default : goal.returns-in_default
returns-in_default c =
    let g = given c.loop-line.line-iterator c.next.new.self c.loop-line.invariant.0 c.in-Some.line c.in-Some.ensures.steps in
    rw g.2 (inspect_hits c.loop-line.invariant.1 g.0 c.loop-line.addresses (none_told c.line_size.ensures.0 (none_there _ c.in_default.not-Some)))

pub loop-line-preserved : goal.loop-line-preserved
loop-line-preserved c =
    let g = given c.loop-line.line-iterator c.next.new.self c.loop-line.invariant.0 c.in-Some.line c.in-Some.ensures.steps in
    let s = number_told c.line_size.ensures.0 c.in-Some-line_size.is in
    (g.3, rw g.4 (inspect_goes c.loop-line.invariant.1 g.0 s.0 s.1 c.count_on-words.ensures (rw g.2 at c.set.ensures)))

pub returns : goal.returns
returns c = inspect_ends c.loop-line.invariant.1 (over c.loop-line.line-iterator c.next.new.self c.loop-line.invariant.0 c.in-None.ensures.steps)
