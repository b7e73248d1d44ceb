-- The loop's invariant is that what is left of the search is the search; each need is one of its laws.
use Prim.Native.Nat.{◌-◌}
use Rattle.slices.specs.Lists.{mapped}
use Rattle.run_numbers.specs.Runs.{state_of}
use Rattle.scheduling.specs.internal.Search.{goes_by}
use Rattle.scheduling.proofs.Finding.{Searching}
use Rattle.scheduling.proofs.search.next_seat.Given as goal

abbrev pub invariant-loop-asked : goal.invariant-loop-asked
invariant-loop-asked l = Searching (goes_by l.opcodes l.roll_lengths (mapped state_of l.states) l.roll_positions) l.n l.from l.i (l.n - l.asked)
