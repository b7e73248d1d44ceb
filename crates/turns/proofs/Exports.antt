-- The report of a turn as numbers has all of its outcome.
-- Assumes nothing.
use mathlib.Core.Path.{◌≡◌, refl, sym, ap, ◌∙◌}
use mathlib.Core.List.{List}
use Prim.Native.Nat.{ℕ}
use lib.ListN.{length}
use Rattle.std.specs.Prelude.{Some, None, Ok, Err}
use Rattle.slices.specs.Lists.{mapped}
use Rattle.slices.proofs.Lookup.{length_mapped}
use Rattle.run_numbers.specs.Runs.{state_of}
use Rattle.seats.specs.Room.{Room}
use Rattle.seats.specs.Turn.{TurnCall, TurnAnswer, turn_of}
use Rattle.seats.proofs.Promises.{turn_promise, places_kept, room_promise}
use Rattle.scheduling.specs.declared.SeatNumbers.{SeatNumbers}
use Rattle.scheduling.specs.internal.Places.{EightNumbers}
use Rattle.seating.specs.Reports.{numbers_after, TurnedAs}
use Rattle.seating.specs.declared.TurnReport.{TurnReport}
use Rattle.turns.specs.Exported.{turn_numbers, TurnNumbered}
use Rattle.turns.specs.declared.TurnNumbers.{TurnNumbers}

seats_in : (a : TurnAnswer) (x : SeatNumbers) → (turn_numbers a x).7 ≡ x
seats_in (Err r) x = refl
seats_in (Ok None) x = refl
seats_in (Ok (Some t)) x = refl

pub numbered : (c : TurnCall) (w : Room) (x : SeatNumbers) (a : TurnReport) (r : TurnNumbers) (ram stack rolls : List ℕ)
    → TurnedAs c w x a ram stack rolls → (r ≡ turn_numbers a.answer a.seats) × EightNumbers a.seats.0 a.seats.1 → TurnNumbered c w x r ram stack rolls
numbered c w x a r ram stack rolls t h =
    let e = h.0 in
    let k = places_kept c w in
    let s : r.7 ≡ a.seats = ap (λ (y : TurnNumbers). y.7) e ∙ seats_in a.answer a.seats in
    record {
      report = e ∙ ap (turn_numbers a.answer) t.numbers ∙ ap (λ (y : TurnAnswer). turn_numbers y (numbers_after (turn_of c w).answer x (turn_of c w).room)) t.answer;
      states_left = ap (λ (y : SeatNumbers). mapped state_of y.0) s ∙ t.states;
      positions_left = ap (λ (y : SeatNumbers). y.1) s ∙ t.roll_positions;
      ram_left = t.ram_left;
      stack_left = t.stack_left;
      rolls_left = t.rolls_left;
      promise = turn_promise c w;
      eight =
          record {
            states = sym k.0 ∙ ap length (sym t.states) ∙ length_mapped state_of a.seats.0 ∙ h.1.states_long;
            roll_positions = sym k.1 ∙ ap length (sym t.roll_positions) ∙ h.1.roll_positions_long;
          };
      turns = room_promise;
    }
