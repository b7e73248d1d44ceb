-- A line a turn: none before it repeats a label or uses a missing one.
use mathlib.Core.Path.{sym, ap₂, ◌∙◌}
use mathlib.Core.Bool.{◌||◌}
use Rattle.labels.proofs.Cuts.{given, over, this_line}
use Rattle.labels.proofs.Numbered.{hit_number, no_number}
use Rattle.labels.proofs.Searches.{search_hits, search_goes, search_ends}
use Rattle.labels.proofs.label_fault.Goals as goal

pub is_repeat-requires : goal.is_repeat-requires
is_repeat-requires c =
    let g = given c.loop-line.line-iterator c.next.new.self c.loop-line.invariant.0 c.in-Some.line c.in-Some.ensures.steps in
    (c.requires.1, rw g.2 (this_line c.loop-line.invariant.1.line g.0))

pub returns-then-is_repeat-is_missing : goal.returns-then-is_repeat-is_missing
returns-then-is_repeat-is_missing c =
    let g = given c.loop-line.line-iterator c.next.new.self c.loop-line.invariant.0 c.in-Some.line c.in-Some.ensures.steps in
    let i = c.loop-line.invariant.1 in
    let faulty = ap₂ ◌||◌ (sym c.is_repeat.ensures) (sym c.is_missing.ensures) ∙ c.if-is_repeat-is_missing.true in
    rw g.2 (hit_number i.line.from (search_hits i g.0 (rw g.2 at faulty)))

pub loop-line-preserved : goal.loop-line-preserved
loop-line-preserved c =
    let g = given c.loop-line.line-iterator c.next.new.self c.loop-line.invariant.0 c.in-Some.line c.in-Some.ensures.steps in
    let good = ap₂ ◌||◌ (sym c.is_repeat.ensures) (sym c.is_missing.ensures) ∙ c.if-is_repeat-is_missing.false in
    (g.3, rw g.4 (search_goes c.loop-line.invariant.1 g.0 (rw g.2 at good)))

pub returns : goal.returns
returns c = no_number (search_ends c.loop-line.invariant.1 (over c.loop-line.line-iterator c.next.new.self c.loop-line.invariant.0 c.in-None.ensures.steps))
