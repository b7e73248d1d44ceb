-- A turn's outcome from what its parts tell: a refusal, that no seat was found, or the run of the seat that was.
-- Assumes nothing.
use mathlib.Core.Path.{◌≡◌, refl, sym, ap, ◌∙◌}
use mathlib.Core.List.{List}
use Prim.Native.Nat.{ℕ, ◌+◌, ◌%◌, ◌≤◌, ◌<◌}
use native.Mathlib.Nat.{mod-lt, min-le_left}
use native.Mathlib.Omega.{arith}
use lib.Dec.{ltb}
use lib.ListN.{length, get_or, set, drop, length-take, get_or-eq_default}
use lib.Seq.{get_or-set_same, get_or-take, get_or-drop}
use borrow.Author.Tests.{ltb-true, ltb-false}
use Rattle.std.specs.Prelude.{Option, Some, None, Result, Ok, Err, ⊤}
use Rattle.slices.specs.Lists.{mapped, Bytes}
use Rattle.slices.specs.Sizes.{bank_size}
use Rattle.slices.proofs.Bools.{by_test}
use Rattle.slices.proofs.Lookup.{length_mapped}
use Rattle.model.specs.State.{start_state}
use Rattle.machine.specs.declared.Reached.{Reached}
use Rattle.run_numbers.specs.Runs.{state_of}
use Rattle.seats.specs.Room.{Room, max_seats, bank_at, bank_of, seat_of, with_seat, alone_of}
use Rattle.seats.specs.Turn.{TurnCall, turn_call, TurnOutcome, turn_outcome, turn_fault, goes_in, seat_after, first_from, next_seat, ran_of, made_of, turn_by, turn_of}
use Rattle.seats.specs.declared.TurnRefusal.{TurnRefusal}
use Rattle.seats.proofs.FairTurns.{turn_made}
use Rattle.seats.proofs.TurnCases.{Bounded, bounded, passed, fitting, places, FoundFits, found_fits}
use Rattle.seats.specs.internal.Places.{Fitting, SeatPlaces}
use Rattle.scheduling.specs.Numbers.{room_of}
use Rattle.scheduling.specs.internal.Search.{goes_by}
use Rattle.scheduling.specs.declared.SeatLengths.{SeatLengths}
use Rattle.scheduling.specs.declared.SeatNumbers.{SeatNumbers}
use Rattle.scheduling.proofs.Finding.{goes_is, alike}
use Rattle.scheduling.proofs.Numbers.{state_put}
use Rattle.seating.specs.Reports.{numbers_after, TurnedAs}
use Rattle.seating.specs.declared.TurnReport.{TurnReport}
use Rattle.seating.specs.internal.SeatRuns.{SeatRan, report_by}

-- ---- a call that keeps the rules

pub record Accepted (n slice : ℕ) (w : Room) : Type 0 where
  pub no_fault : turn_fault n slice w ≡ Ok tt
  pub bounds : Bounded n slice
  pub fits : Fitting n w

pub accepted : (n slice : ℕ) (w : Room) → turn_fault n slice w ≡ Ok tt → Accepted n slice w
accepted n slice w f =
    let p = passed n slice w f in
    record { no_fault = f; bounds = bounded n slice p.0 p.1.0; fits = fitting n w p.1.1.0 }

-- ---- the seat found

bank_bytes : (l : List ℕ) → Bytes l → (i a : ℕ) → get_or (bank_of l i) a 0 < 256
bank_bytes l b i a =
    by_test (ltb a bank_size)
    (λ t. rw (get_or-take bank_size (drop (bank_at i) l) a 0 (ltb-true a bank_size t), get_or-drop (bank_at i) l a 0) (b (bank_at i + a)))
    (λ t.
    let h : bank_size ≤ a = ltb-false a bank_size t in
    let e : length (bank_of l i) ≤ bank_size = rw (length-take bank_size (drop (bank_at i) l)) (min-le_left bank_size (length (drop (bank_at i) l))) in
    let g : length (bank_of l i) ≤ a = omega arith in
    rw (get_or-eq_default (bank_of l i) 0 g) (omega arith))

-- the code's search is the definition's
pub sought : (n slice from : ℕ) (w : Room) → Accepted n slice w → Bytes w.opcodes
    → first_from (goes_by w.opcodes w.roll_lengths w.states w.roll_positions) n (from % n) n ≡ next_seat (turn_call n slice from) w
sought n slice from w a b =
    alike (goes_by w.opcodes w.roll_lengths w.states w.roll_positions) (goes_in w) n
    (goes_is n w a.fits (λ j. bank_bytes w.opcodes b j (get_or w.states j start_state).pc))
    n (from % n) (mod-lt from a.bounds.some_seats)

pub below : (n slice from i : ℕ) (w : Room) → Accepted n slice w → next_seat (turn_call n slice from) w ≡ Some i → i < n
below n slice from i w a x =
    let f : FoundFits (goes_in w) n (Some i) = rw x at (found_fits (goes_in w) n n (from % n) (mod-lt from a.bounds.some_seats)) in
    f.below

-- a call that is kept, and what was found of it
pub record Seeks (n slice from : ℕ) (w : Room) (x : Option ℕ) : Type 0 where
  pub accepts : Accepted n slice w
  pub found : next_seat (turn_call n slice from) w ≡ x

-- the seat that was found is one of n, and has its places
module _ {n slice from i : ℕ} {w : Room} (s : Seeks n slice from w (Some i)) where
  pub is_seat : i < n
  is_seat = below n slice from i w s.accepts s.found

  pub has_place : i < max_seats
  has_place = omega (arith, is_seat, s.accepts.bounds.most_seats)

  pub has_places : SeatPlaces w i
  has_places = places n w s.accepts.fits i is_seat

-- the code's search x, as its contract tells it, is that of a call that is kept
pub seeks : {n slice : ℕ} (from : ℕ) {w : Room} → Accepted n slice w → Bytes w.opcodes → {x : Option ℕ}
    → x ≡ first_from (goes_by w.opcodes w.roll_lengths w.states w.roll_positions) n (from % n) n → Seeks n slice from w x
seeks {n} {slice} from {w} a b e = record { accepts = a; found = sym (e ∙ sought n slice from w a b) }

-- ---- the three outcomes

module _ (n slice from : ℕ) (ops args keys ram stack rolls : List ℕ) (m : SeatLengths) (x : SeatNumbers) where
  abbrev here : Room
  here = room_of ops args keys ram stack rolls m x

  abbrev call : TurnCall
  call = turn_call n slice from

  -- a turn with the outcome o
  turned_as : (o : TurnOutcome) (r : TurnReport) (ram' stack' rolls' : List ℕ) → turn_of call here ≡ o → r.answer ≡ o.answer
      → r.seats ≡ numbers_after o.answer x o.room → mapped state_of r.seats.0 ≡ o.room.states → r.seats.1 ≡ o.room.roll_positions
      → ram' ≡ o.room.ram → stack' ≡ o.room.stack → rolls' ≡ o.room.rolls → TurnedAs call here x r ram' stack' rolls'
  turned_as o r ram' stack' rolls' e answer numbers states positions ram_left stack_left rolls_left =
      record {
        answer = answer ∙ ap (λ (z : TurnOutcome). z.answer) (sym e);
        numbers = numbers ∙ ap (λ (z : TurnOutcome). numbers_after z.answer x z.room) (sym e);
        states = states ∙ ap (λ (z : TurnOutcome). z.room.states) (sym e);
        roll_positions = positions ∙ ap (λ (z : TurnOutcome). z.room.roll_positions) (sym e);
        ram_left = ram_left ∙ ap (λ (z : TurnOutcome). z.room.ram) (sym e);
        stack_left = stack_left ∙ ap (λ (z : TurnOutcome). z.room.stack) (sym e);
        rolls_left = rolls_left ∙ ap (λ (z : TurnOutcome). z.room.rolls) (sym e);
      }

  pub refused_as : (q : TurnRefusal) (r : TurnReport) → r ≡ record { answer = Err q; seats = x }
      → turn_fault n slice here ≡ Err q → TurnedAs call here x r ram stack rolls
  unfolding turn_of
  refused_as q r e f =
      let o : turn_of call here ≡ turn_outcome (Err q) here =
      ap (λ (m : Result ⊤ TurnRefusal). turn_by m call here) f in
      turned_as (turn_outcome (Err q) here) r ram stack rolls o (rw e) (rw e) (rw e) (rw e) refl refl refl

  pub none_as : (r : TurnReport) → r ≡ record { answer = Ok None; seats = x } → Seeks n slice from here None → TurnedAs call here x r ram stack rolls
  none_as r e s =
      let o : turn_of call here ≡ turn_outcome (Ok None) here = turn_made call here s.accepts.no_fault ∙ ap (made_of call here) s.found in
      turned_as (turn_outcome (Ok None) here) r ram stack rolls o (rw e) (rw e) (rw e) (rw e) refl refl refl

  pub ran_as : (i next : ℕ) (o : Reached) (r : TurnReport) (ram' stack' rolls' : List ℕ) → Seeks n slice from here (Some i)
      → next ≡ seat_after n i
      → (length x.0 ≡ max_seats) × SeatRan here i slice o ram' stack' rolls' → r ≡ report_by i next o.ran o.state x
      → TurnedAs call here x r ram' stack' rolls'
  unfolding ran_of with_seat
  ran_as i next o r ram' stack' rolls' k q ran e =
      let a = k.accepts in
      let s = ran.1 in
      let d = (alone_of (seat_of here i) slice).machine.core in
      let b : i < n = below n slice from i here a k.found in
      let l : length (mapped state_of x.0) ≡ max_seats = length_mapped state_of x.0 ∙ ran.0 in
      let p : get_or (set (mapped state_of x.0) i d.state) i start_state ≡ d.state =
      get_or-set_same (mapped state_of x.0) i d.state start_state (omega (arith, a.bounds.most_seats)) in
      let made : turn_of call here ≡ ran_of call here i = turn_made call here a.no_fault ∙ ap (made_of call here) k.found in
      turned_as (ran_of call here i) r ram' stack' rolls' made
      (rw (e, s.made, q))
      (rw (e, s.made, s.state, p))
      (rw (e, s.state) (state_put x.0 i d.state))
      (rw (e, s.made))
      s.ram_left
      s.stack_left
      s.rolls_left
