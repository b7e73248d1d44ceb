-- A turn keeps its promise, and so do turns one after another.
-- Assumes nothing.
use mathlib.Core.Path.{◌≡◌, refl, sym, ap, subst, ◌∙◌}
use mathlib.Core.Bool.{false}
use Prim.Native.Nat.{ℕ, zero, suc, ◌<◌}
use native.Mathlib.Omega.{arith}
use lib.ListN.{length, length-set}
use Rattle.std.specs.Prelude.{Some, None, Ok}
use Rattle.slices.specs.Checks.{NoneBroken, first_broken, FirstViolation}
use Rattle.slices.proofs.Checks.{all_hold, first_violation}
use Rattle.model.specs.Run.{reported, verdict_at, run_of}
use Rattle.model.specs.Step.{machine_at, step_of}
use Rattle.model.specs.declared.Stop.{Stop}
use Rattle.model.proofs.Kept.{step_counts}
use Rattle.model.proofs.Promises.{checks_pass, passed_call}
use Rattle.model.proofs.Runs.{by_verdict, run_stops, run_goes, some_left}
use Rattle.model.proofs.Traces.{run_steps}
use Rattle.seats.specs.Room.{Room, Seat, seat_of, with_seat, machine_in, alone_of}
use Rattle.seats.specs.RoomPromise.{Skips, call_at, AloneIsACall, RoomPromise}
use Rattle.seats.specs.Turn.{TurnCall, TurnOutcome, turn_checks, can_go, goes_in, seat_after, ran_of, turn_of, turn_number, ran_seat, TurnPromise}
use Rattle.seats.specs.declared.SeatTurn.{SeatTurn}
use Rattle.seats.proofs.AloneRuns.{alone_none, ran_other, alone}
use Rattle.seats.proofs.FairTurns.{fair}
use Rattle.seats.proofs.Rounds.{after_is, found_first, none_found}
use Rattle.seats.proofs.SeatRuns.{same_steps, demand_at_seats}
use Rattle.seats.proofs.TurnCases.{RanThere, numbered, fault_first, bounded, turn_cases}

-- ---- a turn

module _ (c : TurnCall) (w : Room) where
  -- the answer's number is that of the first broken rule
  fault_told : turn_number (turn_of c w).answer ≡ first_broken (turn_checks c.seats c.slice w)
  unfolding ran_of
  fault_told =
      turn_cases (λ (o : TurnOutcome). turn_number o.answer ≡ first_broken (turn_checks c.seats c.slice w)) c w
      (λ k e. fault_first c.seats c.slice w k e)
      (λ n. sym (all_hold (turn_checks c.seats c.slice w) n.kept))
      (λ j r. sym (all_hold (turn_checks c.seats c.slice w) r.kept))

  refuses : FirstViolation (turn_checks c.seats c.slice w) (turn_number (turn_of c w).answer)
  refuses = rw fault_told (first_violation (turn_checks c.seats c.slice w) (numbered c.seats c.slice w))

  unchanged : (NoneBroken (turn_checks c.seats c.slice w) → ⊥) → (turn_of c w).room ≡ w
  unfolding ran_of
  unchanged =
      turn_cases (λ (o : TurnOutcome). (NoneBroken (turn_checks c.seats c.slice w) → ⊥) → o.room ≡ w) c w
      (λ k e b. refl)
      (λ n b. refl)
      (λ j r b. absurd (b r.kept))

  none_kept : (turn_of c w).answer ≡ Ok None → (turn_of c w).room ≡ w
  unfolding ran_of
  none_kept =
      turn_cases (λ (o : TurnOutcome). o.answer ≡ Ok None → o.room ≡ w) c w
      (λ k e q. refl)
      (λ n q. refl)
      (λ j r q. absurd (let z : ◌≡◌ {A = ℕ} 0 1 = cc in omega arith))

  none_goes : (turn_of c w).answer ≡ Ok None → (i : ℕ) → i < c.seats → goes_in w i ≡ false
  unfolding ran_of
  none_goes =
      turn_cases (λ (o : TurnOutcome). o.answer ≡ Ok None → (i : ℕ) → i < c.seats → goes_in w i ≡ false) c w
      (λ k e q. absurd (let z : ◌≡◌ {A = ℕ} 0 1 = cc in omega arith))
      (λ n q. none_found (goes_in w) c.seats c.from n.found)
      (λ j r q. absurd (let z : ◌≡◌ {A = ℕ} 0 1 = cc in omega arith))

  -- a turn that answers so, of a seat i that was found
  ran_is : (t : SeatTurn) → (turn_of c w).answer ≡ Ok (Some t) → RanThere c w t.seat × (t.next ≡ seat_after c.seats t.seat)
  unfolding ran_of
  ran_is t =
      turn_cases (λ (o : TurnOutcome). o.answer ≡ Ok (Some t) → RanThere c w t.seat × (t.next ≡ seat_after c.seats t.seat)) c w
      (λ k e q. absurd (let z : ◌≡◌ {A = ℕ} 0 1 = cc in omega arith))
      (λ n q. absurd (let z : ◌≡◌ {A = ℕ} 0 1 = cc in omega arith))
      (λ j r q.
      let z : j ≡ t.seat = cc in
      let a : seat_after c.seats j ≡ t.next = cc in
      (subst (RanThere c w) z r, sym a ∙ ap (seat_after c.seats) z))

  pub turn_promise : TurnPromise c w (turn_of c w)
  unfolding ran_of
  turn_promise =
      record {
        refuses = refuses;
        unchanged = unchanged;
        none_kept = none_kept;
        none_goes = none_goes;
        first = λ t q.
            let r = (ran_is t q).0 in
            found_first (goes_in w) c.seats c.from t.seat (bounded c.seats c.slice r.kept.0 r.kept.1.0).some_seats r.found;
        after = λ t q.
            let r = ran_is t q in
            r.1 ∙ after_is c.seats t.seat r.0.below;
        others_kept =
            turn_cases (λ (o : TurnOutcome). (i : ℕ) → ran_seat i o.answer ≡ false → seat_of o.room i ≡ seat_of w i) c w
            (λ k e i q. refl)
            (λ n i q. refl)
            (λ j r i q. ran_other c w j r i q);
      }

-- a turn keeps the places of states and roll positions
pub places_kept : (c : TurnCall) (w : Room) → (length (turn_of c w).room.states ≡ length w.states) × (length (turn_of c w).room.roll_positions ≡ length w.roll_positions)
unfolding ran_of with_seat
places_kept c w =
    turn_cases (λ (o : TurnOutcome). (length o.room.states ≡ length w.states) × (length o.room.roll_positions ≡ length w.roll_positions)) c w
    (λ k e. (refl, refl))
    (λ n. (refl, refl))
    (λ j r. (length-set w.states j _, length-set w.roll_positions j _))

-- ---- turns one after another

going_on : (s : Seat) (n : ℕ) → verdict_at s.setting 1 (machine_in s 0 0) ≡ None → 0 < n → 0 < (alone_of s n).machine.core.steps
unfolding alone_of
going_on s zero e h = absurd (omega arith)
going_on s (suc n) e h =
    let x = s.setting in
    let m = machine_in s 0 0 in
    let g = run_goes x n m (some_left x n 0 m ∙ e) in
    let t = run_steps x n (step_of x m) in
    let k = step_counts x m in
    rw g (omega arith)

stays : (s : Seat) (y : Stop) (n : ℕ) → verdict_at s.setting 1 (machine_in s 0 0) ≡ Some y → (alone_of s n).machine ≡ machine_in s 0 0
unfolding alone_of
stays s y zero e = alone_none s
stays s y (suc n) e = rw (run_stops s.setting (suc n) (machine_in s 0 0) y (some_left s.setting n 0 (machine_in s 0 0) ∙ e))

skips : (s : Seat) → Skips s
unfolding can_go
skips s =
    by_verdict (verdict_at s.setting 1 (machine_in s 0 0))
    (λ y e. record { stays = λ q n. stays s y n e; goes = λ q n h. absurd (let z : ◌≡◌ {A = ℕ} 0 1 = cc in omega arith) })
    (λ e. record { stays = λ q n. absurd (let z : ◌≡◌ {A = ℕ} 0 1 = cc in omega arith); goes = λ q n h. going_on s n e h })

alone_is_a_call : AloneIsACall
unfolding alone_of
alone_is_a_call s budget z p =
    passed_call (call_at s budget) (checks_pass (call_at s budget) p)
    ∙ ap (λ (n : ℕ). reported (run_of s.setting budget (machine_at s.state s.ram s.stack s.roll n 0 0))) (sym z)

pub room_promise : RoomPromise
room_promise =
    record {
      skips = skips;
      fair = fair;
      alone = alone;
      alone_is_a_call = alone_is_a_call;
      same_steps = same_steps;
      demand_at_seats = demand_at_seats;
    }
