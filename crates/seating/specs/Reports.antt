-- A turn's outcome by its report and the numbers of the seats.
-- Assumes nothing.
use Rattle.std.specs.Prelude.{ℕ, ◌≡◌, List, Some, None, Ok, Err, get_or, set}
use Rattle.slices.specs.Lists.{mapped}
use Rattle.model.specs.State.{start_state}
use Rattle.run_numbers.specs.Runs.{state_of, state_numbers}
use Rattle.seats.specs.Room.{Room}
use Rattle.seats.specs.Turn.{TurnCall, TurnAnswer, turn_of}
use Rattle.scheduling.specs.declared.SeatNumbers.{SeatNumbers}
use Rattle.seating.specs.declared.TurnReport.{TurnReport}

-- the numbers of the seats after a turn that answered so and left the room w, lent as x: those of the seat that ran are new, all others as they
-- were lent
abbrev pub numbers_after : TurnAnswer → SeatNumbers → Room → SeatNumbers
numbers_after (Err r) x w = x
numbers_after (Ok None) x w = x
numbers_after (Ok (Some t)) x w = (set x.0 t.seat (state_numbers (get_or w.states t.seat start_state)), w.roll_positions)

-- a turn's report r and what is left in the buffers, of the room w whose seats are lent as x. Opcodes, arguments, keys and all lengths are only read
pub record TurnedAs (c : TurnCall) (w : Room) (x : SeatNumbers) (r : TurnReport) (ram stack rolls : List ℕ) : Type 0 where
  pub answer : r.answer ≡ (turn_of c w).answer
  pub numbers : r.seats ≡ numbers_after (turn_of c w).answer x (turn_of c w).room
  pub states : mapped state_of r.seats.0 ≡ (turn_of c w).room.states
  pub roll_positions : r.seats.1 ≡ (turn_of c w).room.roll_positions
  pub ram_left : ram ≡ (turn_of c w).room.ram
  pub stack_left : stack ≡ (turn_of c w).room.stack
  pub rolls_left : rolls ≡ (turn_of c w).room.rolls
