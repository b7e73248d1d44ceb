-- A byte a turn: what is left, judged from here, gives the answer of the whole.
use Rattle.checking.proofs.Walking.{Stepping}
use Rattle.checking.proofs.judging.judge_bytes.Given as goal

abbrev pub invariant-loop : goal.invariant-loop
invariant-loop l = Stepping l.file l.at l.m l.counter l.next
