-- The count is the rank of the address that the loop has come to.
use native.Mathlib.Omega.{arith}
use Rattle.drafting.proofs.Numbering.{numbers_start, numbers_next, numbers_end}
use Rattle.drafting.proofs.number_routines.Goals as goal

pub loop-a-init : goal.loop-a-init
loop-a-init c = numbers_start c.requires

pub loop-a-preserved : goal.loop-a-preserved
loop-a-preserved c = numbers_next c.loop-a.invariant (omega arith) c.count_entry-routines.ensures

pub returns-2 : goal.returns-2
returns-2 c = numbers_end (numbers_next c.loop-a.invariant (omega arith) c.count_entry-routines.ensures) (omega arith)
