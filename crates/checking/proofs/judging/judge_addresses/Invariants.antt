-- An address a turn: what is left, judged from here, gives the answer of the whole.
use Rattle.checking.proofs.Walking.{Walking}
use Rattle.checking.proofs.judging.judge_addresses.Given as goal

abbrev pub invariant-loop : goal.invariant-loop
invariant-loop l = Walking l.file l.at l.n l.counter l.next l.blank
