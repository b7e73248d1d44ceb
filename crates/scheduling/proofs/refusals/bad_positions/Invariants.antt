-- The seats asked so far.
use mathlib.Core.Path.{◌≡◌}
use Rattle.slices.specs.Lists.{mapped}
use Rattle.run_numbers.specs.Runs.{state_of}
use Rattle.seats.specs.Turn.{bad_position, any_of}
use Rattle.scheduling.proofs.refusals.bad_positions.Given as goal

abbrev pub invariant-loop-i : goal.invariant-loop-i
invariant-loop-i l = l.any ≡ any_of (bad_position l.keys l.rolls (mapped state_of l.states) l.positions) l.i
