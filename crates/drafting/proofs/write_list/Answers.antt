-- Of each address that the loop has passed the list has what it says of it.
use native.Mathlib.Omega.{arith}
use Rattle.drafting.proofs.Entering.{enter_start, enter_next, enter_end}
use Rattle.drafting.proofs.write_list.Goals as goal

pub loop-a-init : goal.loop-a-init
loop-a-init c = enter_start c.requires.0

pub loop-a-preserved : goal.loop-a-preserved
loop-a-preserved c = enter_next c.loop-a.invariant (omega arith) c.requires.1 c.write_entry-n.ensures.0 c.write_entry-n.ensures.1

pub returns-2 : goal.returns-2
returns-2 c =
    enter_end (enter_next c.loop-a.invariant (omega arith) c.requires.1 c.write_entry-n.ensures.0 c.write_entry-n.ensures.1) (omega arith)
