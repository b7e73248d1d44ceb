-- Each seat runs as if it ran alone: a turn changes no seat but the one that ran, and that one goes on with its slice; what was counted before does
-- not matter to it.
-- Assumes nothing.
use mathlib.Core.Path.{◌≡◌, refl, sym, ap, ◌∙◌}
use mathlib.Core.Bool.{false, cond}
use mathlib.Core.List.{[], ◌∷◌}
use Prim.Native.Nat.{ℕ, ◌+◌}
use native.Mathlib.Nat.{add-zero}
use native.Mathlib.Omega.{arith}
use lib.Dec.{eqb}
use borrow.Author.Tests.{eqb-true, eqb-false}
use Rattle.slices.proofs.Bools.{by_test}
use Rattle.model.specs.Run.{Ended, run_of}
use Rattle.model.specs.Step.{Setting, Machine}
use Rattle.model.proofs.Counts.{recounted, run_recounted}
use Rattle.model.proofs.Runs.{none_left, machine_runs_on}
use Rattle.seats.specs.Room.{Room, EightPlaces, Seat, seat_of, machine_in, alone_of, seat_at}
use Rattle.seats.specs.RoomPromise.{Alone}
use Rattle.seats.specs.Turn.{TurnCall, TurnOutcome, ran_of, turn_of, ran_seat}
use Rattle.seats.specs.TurnLists.{room_after, sum_at, slices_at, steps_in, cycles_in}
use Rattle.seats.specs.internal.Places.{SeatPlaces}
use Rattle.seats.proofs.PutBack.{Sized, alone_sized, seat_other, seat_same, eight_kept}
use Rattle.seats.proofs.TurnCases.{RanThere, bounded, fitting, places, turn_cases}

-- ---- a run alone

pub alone_none : (s : Seat) → (alone_of s 0).machine ≡ machine_in s 0 0
unfolding alone_of
alone_none s = ap (λ (e : Ended). e.machine) (none_left s.setting (machine_in s 0 0))

-- a seat t that stands where s alone came to after n steps goes on as s alone does
alone_goes_on : (s t : Seat) (n k steps cycles : ℕ) → t.setting ≡ s.setting → machine_in t steps cycles ≡ (alone_of s n).machine
    → (alone_of s (n + k)).machine ≡ recounted steps cycles (alone_of t k).machine
unfolding alone_of
alone_goes_on s t n k steps cycles q e =
    let m : recounted steps cycles (machine_in t 0 0) ≡ machine_in t steps cycles = rw (add-zero steps, add-zero cycles) in
    machine_runs_on s.setting n k (machine_in s 0 0)
    ∙ ap (λ (x : Machine). (run_of s.setting k x).machine) (sym e ∙ sym m)
    ∙ ap (λ (x : Setting). (run_of x k (recounted steps cycles (machine_in t 0 0))).machine) (sym q)
    ∙ ap (λ (x : Ended). x.machine) (run_recounted t.setting steps cycles k (machine_in t 0 0))

-- ---- a turn

-- what seat i has after a turn, and that the arrays have eight places
pub record TurnKept (c : TurnCall) (w : Room) (i : ℕ) (o : TurnOutcome) : Type 0 where
  pub setting : (seat_of o.room i).setting ≡ (seat_of w i).setting
  pub machine :
      machine_in (seat_of o.room i) (cond (ran_seat i o.answer) (steps_in c o.answer) 0)
      (cond (ran_seat i o.answer) (cycles_in c o.answer) 0)
      ≡ (alone_of (seat_of w i) (cond (ran_seat i o.answer) c.slice 0)).machine
  pub eight : EightPlaces o.room

module _ (c : TurnCall) (w : Room) where
  module _ (j : ℕ) (r : RanThere c w j) where
    abbrev left : Seat
    left = seat_at (seat_of w j) (alone_of (seat_of w j) c.slice).machine

    place : SeatPlaces w j
    place = places c.seats w (fitting c.seats w r.kept.1.1.0) j r.below

    size : Sized w j left
    size = alone_sized w j c.slice place

    -- the other seats are as they were
    pub ran_other : (i : ℕ) → eqb j i ≡ false → seat_of (ran_of c w j).room i ≡ seat_of w i
    unfolding ran_of
    ran_other i q = seat_other w j left place size i (λ x. eqb-false j i q (sym x))

    pub ran_same : EightPlaces w → seat_of (ran_of c w j).room j ≡ left
    unfolding ran_of
    ran_same e =
        let b = bounded c.seats c.slice r.kept.0 r.kept.1.0 in
        seat_same w j left place size e (omega (arith, b.most_seats, r.below)) refl

    ran_kept : (i : ℕ) → EightPlaces w → TurnKept c w i (ran_of c w j)
    unfolding ran_of
    ran_kept i e =
        by_test (eqb j i)
        (λ q.
        let h : seat_of (ran_of c w j).room i ≡ left = rw (← eqb-true j i q) (ran_same e) in
        record {
          setting = ap (λ (s : Seat). s.setting) h ∙ rw (eqb-true j i q);
          machine =
              rw q
              (ap (λ (s : Seat). machine_in s (alone_of (seat_of w j) c.slice).machine.core.steps (alone_of (seat_of w j) c.slice).machine.core.cycles) h
              ∙ rw (eqb-true j i q));
          eight = eight_kept w j left e;
        })
        (λ q.
        record {
          setting = ap (λ (s : Seat). s.setting) (ran_other i q);
          machine = rw q (ap (λ (s : Seat). machine_in s 0 0) (ran_other i q) ∙ sym (alone_none (seat_of w i)));
          eight = eight_kept w j left e;
        })

  pub turn_kept : (i : ℕ) → EightPlaces w → TurnKept c w i (turn_of c w)
  turn_kept i e =
      turn_cases (TurnKept c w i) c w
      (λ k f. record { setting = refl; machine = sym (alone_none (seat_of w i)); eight = e })
      (λ f. record { setting = refl; machine = sym (alone_none (seat_of w i)); eight = e })
      (λ j r. ran_kept j r i e)

-- ---- a list of turns

pub alone : Alone
unfolding room_after sum_at
alone i [] w e = record { setting_kept = refl; machine_is = sym (alone_none (seat_of w i)) }
alone i (c ∷ cs) w e =
    let w' = (turn_of c w).room in
    let k = turn_kept c w i e in
    let r = alone i cs w' k.eight in
    record {
      setting_kept = r.setting_kept ∙ k.setting;
      machine_is =
          ap (recounted (cond (ran_seat i (turn_of c w).answer) (steps_in c (turn_of c w).answer) 0)
          (cond (ran_seat i (turn_of c w).answer) (cycles_in c (turn_of c w).answer) 0)) r.machine_is
          ∙ sym (alone_goes_on (seat_of w i) (seat_of w' i) (cond (ran_seat i (turn_of c w).answer) c.slice 0) (slices_at i cs w') _ _ k.setting k.machine);
    }
