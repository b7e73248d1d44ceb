-- Each turn counts the last digit of what is left.
use Rattle.pages.proofs.Alignment.{Counting}
use Rattle.pages.proofs.columns.digit_count.Given as goal

abbrev pub invariant-loop-rest : goal.invariant-loop-rest
invariant-loop-rest l = Counting l.n l.count l.rest

abbrev pub decreases-loop-rest : goal.decreases-loop-rest
decreases-loop-rest l = l.rest
