-- What a seat's run leaves in the buffers that all seats share, and the report of the turn.
-- Assumes nothing.
use Rattle.std.specs.Prelude.{ℕ, ◌≡◌, List, Some, Ok}
use Rattle.machine.specs.declared.Reached.{Reached}
use Rattle.model.specs.Run.{Ended}
use Rattle.model.specs.declared.Ran.{Ran}
use Rattle.model.specs.declared.State.{State}
use Rattle.seats.specs.Room.{Room, seat_of, with_seat, alone_of, seat_at}
use Rattle.seats.specs.Turn.{seat_turn}
use Rattle.scheduling.specs.declared.SeatNumbers.{SeatNumbers}
use Rattle.scheduling.specs.internal.Places.{with_numbers}
use Rattle.seating.specs.declared.TurnReport.{TurnReport}

-- the run of seat i alone for a slice, and the room that it leaves
abbrev pub end_at : Room → ℕ → (slice : ℕ) → Ended
end_at w i slice = alone_of (seat_of w i) slice

abbrev pub left_at : Room → ℕ → (slice : ℕ) → Room
left_at w i slice = with_seat w i (seat_at (seat_of w i) (end_at w i slice).machine)

-- what that run r reached, and what it leaves in the buffers
pub record SeatRan (w : Room) (i slice : ℕ) (r : Reached) (ram stack rolls : List ℕ) : Type 0 where
  pub made :
      r.ran
      ≡ record {
        stop = (end_at w i slice).stop;
        steps = (end_at w i slice).machine.core.steps;
        cycles = (end_at w i slice).machine.core.cycles;
        words = (end_at w i slice).machine.core.words;
      }
  pub state : r.state ≡ (end_at w i slice).machine.core.state
  pub ram_left : ram ≡ (left_at w i slice).ram
  pub stack_left : stack ≡ (left_at w i slice).stack
  pub rolls_left : rolls ≡ (left_at w i slice).rolls

-- the report of a turn in which seat i ran; a seat's run is never refused
abbrev pub report_by : (i next : ℕ) → Ran → State → SeatNumbers → TurnReport
report_by i next r s x = record { answer = Ok (Some (seat_turn i next r.stop r.steps r.cycles)); seats = with_numbers x i s r.words }
