-- A run over a seat's parts of the buffers is the seat's own run, and leaves what the seat has then in their places.
-- Assumes nothing.
use mathlib.Core.Path.{◌≡◌, ap}
use mathlib.Core.List.{List, ◌++◌}
use Prim.Native.Nat.{ℕ}
use lib.ListN.{get_or, take, drop}
use Rattle.std.specs.Prelude.{Result, Ok}
use Rattle.slices.specs.Parts.{replaced}
use Rattle.slices.specs.Sizes.{bank_size}
use Rattle.model.specs.Run.{Outcome, outcome, reported, run_of}
use Rattle.model.specs.State.{start_state}
use Rattle.model.specs.Step.{setting, machine_at}
use Rattle.model.specs.declared.Ran.{Ran}
use Rattle.model.specs.declared.Refusal.{Refusal}
use Rattle.model.specs.declared.State.{State}
use Rattle.seats.specs.Room.{Room, bank_at, begin_of, length_at, seat_of, with_seat, alone_of}
use Rattle.machine.specs.declared.Reached.{Reached}
use Rattle.seating.specs.internal.SeatRuns.{SeatRan}

-- answers of runs that are alike are alike in what ran
same_ran : (r q : Ran) → ◌≡◌ {A = Result Ran Refusal} (Ok r) (Ok q) → r ≡ q
same_ran r q e = cc

-- the run over parts of the lent buffers is the seat's own run, and the buffers have its banks and roll in the place of these parts
pub seat_ran : (w : Room) (i slice b k l fk fw : ℕ) (s : State) (r : Reached) (ram' stack' roll' : List ℕ)
    → b ≡ bank_size → k ≡ length_at w.key_lengths i → l ≡ length_at w.roll_lengths i → fk ≡ begin_of w.key_lengths i → fw ≡ begin_of w.roll_lengths i
    → s ≡ get_or w.states i start_state
    → outcome (Ok r.ran) r.state ram' stack' roll'
    ≡ reported (run_of (setting (take b (drop (bank_at i) w.opcodes)) (take b (drop (bank_at i) w.arguments)) (take k (drop fk w.keys))) slice
    (machine_at s (take b (drop (bank_at i) w.ram)) (take b (drop (bank_at i) w.stack)) (take l (drop fw w.rolls)) (get_or w.roll_positions i 0) 0 0))
    → SeatRan w i slice r (take (bank_at i) w.ram ++ (ram' ++ drop b (drop (bank_at i) w.ram)))
    (take (bank_at i) w.stack ++ (stack' ++ drop b (drop (bank_at i) w.stack))) (take fw w.rolls ++ (roll' ++ drop l (drop fw w.rolls)))
unfolding seat_of with_seat alone_of replaced
seat_ran w i slice b k l fk fw s r ram' stack' roll' eb ek el efk efw es e =
    let o : outcome (Ok r.ran) r.state ram' stack' roll' ≡ reported (alone_of (seat_of w i) slice) = rw (eb, ek, el, efk, efw, es) at e in
    record {
      made = same_ran _ _ (ap (λ (z : Outcome). z.answer) o);
      state = ap (λ (z : Outcome). z.state) o;
      ram_left = rw (eb, ← ap (λ (z : Outcome). z.ram) o);
      stack_left = rw (eb, ← ap (λ (z : Outcome). z.stack) o);
      rolls_left = rw (el, efw, ← ap (λ (z : Outcome). z.roll) o);
    }
