-- What is left and the lengths before are the total.
use Rattle.std.proofs.Common.{◌≡◌, ◌+◌, sum, take}
use Rattle.scheduling.proofs.lengths.adds_up.Given as goal

abbrev pub invariant-loop-length : goal.invariant-loop-length
invariant-loop-length l = l.left + sum (take l.length-index l.length-items) ≡ l.total
