-- A seat put back: it is the seat there, and every other seat is as it was, since of two seats one has its places before the other.
-- Assumes nothing.
use mathlib.Core.Path.{◌≡◌, ◌∙◌}
use mathlib.Core.Logic.{◌≢◌}
use mathlib.Core.List.{List}
use Prim.Native.Nat.{ℕ, ◌+◌, ◌≤◌, ◌<◌}
use native.Mathlib.Omega.{arith}
use lib.Dec.{ltb}
use lib.ListN.{length, length-set}
use lib.Seq.{get_or-set_same, get_or-set_other}
use borrow.Author.Tests.{ltb-true, ltb-false}
use Rattle.slices.specs.Parts.{replaced}
use Rattle.slices.specs.Sizes.{bank_size}
use Rattle.slices.proofs.Bools.{by_test}
use Rattle.slices.proofs.Parts.{part_replaced, part_before, part_after, length_part}
use Rattle.model.specs.State.{start_state}
use Rattle.model.proofs.Kept.{run_keeps}
use Rattle.seats.specs.Room.{Room, max_seats, EightPlaces, bank_at, begin_of, length_at, bank_of, share_of, Seat, seat_of, with_seat, machine_in, alone_of, seat_at}
use Rattle.seats.specs.internal.Places.{SeatPlaces}
use Rattle.seats.proofs.Begins.{ends_before}

-- what a seat has of its own has the lengths of its places
pub record Sized (w : Room) (j : ℕ) (s : Seat) : Type 0 where
  pub ram : length s.ram ≡ bank_size
  pub stack : length s.stack ≡ bank_size
  pub roll : length s.roll ≡ length_at w.roll_lengths j

seat_sized : (w : Room) (j : ℕ) → SeatPlaces w j → Sized w j (seat_of w j)
unfolding seat_of
seat_sized w j h =
    record {
      ram = length_part w.ram (bank_at j) bank_size h.ram;
      stack = length_part w.stack (bank_at j) bank_size h.stack;
      roll = length_part w.rolls (begin_of w.roll_lengths j) (length_at w.roll_lengths j) h.rolls;
    }

-- running keeps them
pub alone_sized : (w : Room) (j n : ℕ) → SeatPlaces w j → Sized w j (seat_at (seat_of w j) (alone_of (seat_of w j) n).machine)
unfolding alone_of
alone_sized w j n h =
    let s = seat_of w j in
    let z = seat_sized w j h in
    let k = run_keeps s.setting n (machine_in s 0 0) in
    record { ram = k.ram ∙ z.ram; stack = k.stack ∙ z.stack; roll = k.roll ∙ z.roll }

-- ---- of two seats one has its places before the other

apart : {A : Type 0} (i j : ℕ) → i ≢ j → (i < j → A) → (j < i → A) → A
apart i j h f g = by_test (ltb i j) (λ e. f (ltb-true i j e)) (λ e. let k : j ≤ i = ltb-false i j e in g (omega arith))

bank_other : (i j : ℕ) (x l : List ℕ) → i ≢ j → bank_at j + bank_size ≤ length l → length x ≡ bank_size
    → bank_of (replaced l (bank_at j) bank_size x) i ≡ bank_of l i
bank_other i j x l h f e =
    apart i j h
    (λ k. part_before l (bank_at j) bank_size x f e (bank_at i) bank_size (omega arith))
    (λ k. part_after l (bank_at j) bank_size x f e (bank_at i) bank_size (omega arith))

share_other : (lengths : List ℕ) (i j : ℕ) (x l : List ℕ) → i ≢ j → begin_of lengths j + length_at lengths j ≤ length l → length x ≡ length_at lengths j
    → share_of (replaced l (begin_of lengths j) (length_at lengths j) x) lengths i ≡ share_of l lengths i
share_other lengths i j x l h f e =
    apart i j h
    (λ k. part_before l (begin_of lengths j) (length_at lengths j) x f e (begin_of lengths i) (length_at lengths i) (ends_before lengths i j k))
    (λ k. part_after l (begin_of lengths j) (length_at lengths j) x f e (begin_of lengths i) (length_at lengths i) (ends_before lengths j i k))

-- ---- seats

module _ (w : Room) (j : ℕ) (s : Seat) (p : SeatPlaces w j) (z : Sized w j s) where
  pub seat_other : (i : ℕ) → i ≢ j → seat_of (with_seat w j s) i ≡ seat_of w i
  unfolding seat_of with_seat
  seat_other i h =
      let ram : bank_of (with_seat w j s).ram i ≡ bank_of w.ram i = bank_other i j s.ram w.ram h p.ram z.ram in
      let stack : bank_of (with_seat w j s).stack i ≡ bank_of w.stack i = bank_other i j s.stack w.stack h p.stack z.stack in
      let roll : share_of (with_seat w j s).rolls w.roll_lengths i ≡ share_of w.rolls w.roll_lengths i =
      share_other w.roll_lengths i j s.roll w.rolls h p.rolls z.roll in
      rw (get_or-set_other w.states j i s.state start_state h, get_or-set_other w.roll_positions j i s.roll_position 0 h, ram, stack, roll)

  pub seat_same : EightPlaces w → j < max_seats → s.setting ≡ (seat_of w j).setting → seat_of (with_seat w j s) j ≡ s
  unfolding seat_of with_seat
  seat_same e h q =
      let h₁ : j < length w.states = omega (arith, e.states) in
      let h₂ : j < length w.roll_positions = omega (arith, e.roll_positions) in
      rw (
        get_or-set_same w.states j s.state start_state h₁,
        get_or-set_same w.roll_positions j s.roll_position 0 h₂,
        part_replaced w.ram (bank_at j) bank_size s.ram p.ram z.ram,
        part_replaced w.stack (bank_at j) bank_size s.stack p.stack z.stack,
        part_replaced w.rolls (begin_of w.roll_lengths j) (length_at w.roll_lengths j) s.roll p.rolls z.roll,
        ← q,
      )

pub eight_kept : (w : Room) (j : ℕ) (s : Seat) → EightPlaces w → EightPlaces (with_seat w j s)
unfolding with_seat
eight_kept w j s e =
    record {
      states = length-set w.states j s.state ∙ e.states;
      roll_positions = length-set w.roll_positions j s.roll_position ∙ e.roll_positions;
    }
