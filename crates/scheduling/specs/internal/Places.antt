-- The numbers of the seats with one seat's changed.
-- Assumes nothing.
use Rattle.std.specs.Prelude.{ℕ, ◌≡◌, List, length, set}
use Rattle.model.specs.declared.State.{State}
use Rattle.run_numbers.specs.Runs.{state_numbers}
use Rattle.run_numbers.specs.declared.StateNumbers.{StateNumbers}
use Rattle.seats.specs.Room.{max_seats}
use Rattle.scheduling.specs.declared.SeatNumbers.{SeatNumbers}

-- a state and a roll position put at seat i
abbrev pub with_numbers : SeatNumbers → ℕ → State → ℕ → SeatNumbers
with_numbers x i s words = (set x.0 i (state_numbers s), set x.1 i words)

-- both arrays have eight places
pub record EightNumbers (states : List StateNumbers) (roll_positions : List ℕ) : Type 0 where
  pub states_long : length states ≡ max_seats
  pub roll_positions_long : length roll_positions ≡ max_seats
