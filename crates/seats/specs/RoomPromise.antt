-- WHAT REQUEST 5 PROMISES of turns one after another (02 [5]): every seat that can go on has its turns, every seat runs as if it ran alone, and
-- the third demand holds at the seat of an admitted listing.
-- Assumes nothing.
use Rattle.std.specs.Prelude.{ℕ, ◌<◌, ◌≡◌, true, false, List, length}
use Rattle.slices.specs.Checks.{NoneBroken}
use Rattle.model.specs.Run.{Call, reported, call_of, run_checks}
use Rattle.seats.specs.AtSeat.{SameSteps, DemandAtSeats}
use Rattle.seats.specs.Room.{Room, EightPlaces, Seat, seat_of, machine_in, alone_of}
use Rattle.seats.specs.Turn.{TurnCall, can_go}
use Rattle.seats.specs.TurnLists.{room_after, slices_at, steps_at, cycles_at, round_of, any_refused, ever_ran}

-- "skipping seats whose next step a stop other than spent prevents": alone, such a seat makes no step with any budget, and every other seat makes
-- at least one unless the budget is 0
pub record Skips (s : Seat) : Type 0 where
  pub stays : can_go s ≡ false → (budget : ℕ) → (alone_of s budget).machine ≡ machine_in s 0 0
  pub goes : can_go s ≡ true → (budget : ℕ) → 0 < budget → 0 < (alone_of s budget).machine.core.steps

-- "A seat that can go on then runs within as many turns as there are seats, when each turn is given the seat that the one before gave and none is
-- refused": of n seats, in n turns of any slices, from any seat on
abbrev pub Fair : Type 0
Fair =
    (n i from : ℕ) (slices : List ℕ) (w : Room) → length slices ≡ n → i < n → can_go (seat_of w i) ≡ true
    → any_refused (round_of n slices from w) ≡ false → ever_ran i (round_of n slices from w) ≡ true

-- "Its state, banks and all roll words together are those of running it alone with its slices' sum as the budget, even above 1,000,000"; so are
-- the steps and the cycles that its turns told, added up
pub record AloneAt (i : ℕ) (cs : List TurnCall) (w : Room) : Type 0 where
  pub setting_kept : (seat_of (room_after cs w) i).setting ≡ (seat_of w i).setting
  pub machine_is : machine_in (seat_of (room_after cs w) i) (steps_at i cs w) (cycles_at i cs w) ≡ (alone_of (seat_of w i) (slices_at i cs w)).machine

-- after any list of turns, of any seats, slices and given seats, refused ones among them
abbrev pub Alone : Type 0
Alone = (i : ℕ) (cs : List TurnCall) (w : Room) → EightPlaces w → AloneAt i cs w

-- running a seat alone is 01's run of its banks, keys and roll: where nothing stands on the roll yet and that call is not refused, it answers and
-- leaves just this
abbrev pub call_at : Seat → (budget : ℕ) → Call
call_at s budget =
    record { setting = s.setting; budget = budget; state = s.state; ram = s.ram; stack = s.stack; roll = s.roll }

abbrev pub AloneIsACall : Type 0
AloneIsACall =
    (s : Seat) (budget : ℕ) → s.roll_position ≡ 0 → NoneBroken (run_checks (call_at s budget))
    → call_of (call_at s budget) ≡ reported (alone_of s budget)

pub record RoomPromise : Type 0 where
  pub skips : (s : Seat) → Skips s
  pub fair : Fair
  pub alone : Alone
  pub alone_is_a_call : AloneIsACall
  pub same_steps : SameSteps
  pub demand_at_seats : DemandAtSeats
