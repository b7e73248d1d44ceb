-- A room by its buffers and the numbers of its seats.
-- Assumes nothing.
use Rattle.std.specs.Prelude.{ℕ, List}
use Rattle.slices.specs.Lists.{mapped}
use Rattle.run_numbers.specs.Runs.{state_of}
use Rattle.seats.specs.Room.{Room, room}
use Rattle.scheduling.specs.declared.SeatLengths.{SeatLengths}
use Rattle.scheduling.specs.declared.SeatNumbers.{SeatNumbers}

-- the lengths of keys and rolls, the numbers of states, and roll positions
abbrev pub room_of : (ops args keys ram stack rolls : List ℕ) → SeatLengths → SeatNumbers → Room
room_of ops args keys ram stack rolls k x = room ops args keys ram stack rolls k.0 k.1 (mapped state_of x.0) x.1
