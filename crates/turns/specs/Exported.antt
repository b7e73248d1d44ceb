-- A turn's report as numbers, and what the export promises.
-- Assumes nothing.
use Rattle.std.specs.Prelude.{ℕ, ◌≡◌, true, false, List, Some, None, Ok, Err}
use Rattle.slices.specs.Lists.{mapped}
use Rattle.run_numbers.specs.Runs.{state_of, stop_number}
use Rattle.seats.specs.Room.{Room, EightPlaces}
use Rattle.seats.specs.RoomPromise.{RoomPromise}
use Rattle.seats.specs.Turn.{TurnCall, TurnAnswer, refusal_number, turn_of, TurnPromise}
use Rattle.scheduling.specs.declared.SeatNumbers.{SeatNumbers}
use Rattle.seating.specs.Reports.{numbers_after}
use Rattle.turns.specs.declared.TurnNumbers.{TurnNumbers}

-- 02's number, whether a seat ran, its stop, steps and cycles, that seat, the seat after it, and the numbers of all seats. A refusal has only its
-- number, and "where none can go on it only says so": 0 and no seat
abbrev pub turn_numbers : TurnAnswer → SeatNumbers → TurnNumbers
turn_numbers (Err r) x = (refusal_number r, false, 0, 0, 0, 0, 0, x)
turn_numbers (Ok None) x = (0, false, 0, 0, 0, 0, 0, x)
turn_numbers (Ok (Some t)) x = (0, true, stop_number t.stop, t.steps, t.cycles, t.seat, t.next, x)

-- the whole outcome of a turn's call c in the room w, whose seats are lent as the numbers x, as numbers and lent memory. Opcodes, arguments, keys
-- and all lengths are only read
pub record TurnNumbered (c : TurnCall) (w : Room) (x : SeatNumbers) (r : TurnNumbers) (ram stack rolls : List ℕ) : Type 0 where
  pub report : r ≡ turn_numbers (turn_of c w).answer (numbers_after (turn_of c w).answer x (turn_of c w).room)
  -- the next turn is lent the states and the roll positions of the room that this one left
  pub states_left : mapped state_of r.7.0 ≡ (turn_of c w).room.states
  pub positions_left : r.7.1 ≡ (turn_of c w).room.roll_positions
  pub ram_left : ram ≡ (turn_of c w).room.ram
  pub stack_left : stack ≡ (turn_of c w).room.stack
  pub rolls_left : rolls ≡ (turn_of c w).room.rolls
  -- what a turn promises, and what turns one after another do; the latter asks for arrays of eight places, which these are
  pub promise : TurnPromise c w (turn_of c w)
  pub eight : EightPlaces w
  pub turns : RoomPromise
