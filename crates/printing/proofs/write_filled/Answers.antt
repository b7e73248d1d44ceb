-- A byte of the spelling a turn: what is left of it, filled and written from here, leaves the page of the whole.
use borrow.Author.Rules.{rules}
use Rattle.printing.proofs.Filling.{fill_goes, fill_dot, fill_full}
use Rattle.printing.proofs.write_filled.Goals as goal

pub returns-then-c-eq46 : goal.returns-then-c-eq46
returns-then-c-eq46 c = fill_dot c.loop-j.invariant c.pattern-c.ensures c.if-c-eq46.true

pub loop-j-preserved : goal.loop-j-preserved
loop-j-preserved c = fill_goes c.loop-j.invariant c.pattern-c.ensures c.if-c-eq46.false c.write_shown-next.ensures c.write_shown-next.auto.out

pub returns : goal.returns
returns c = fill_full c.loop-j.invariant (search rules)
