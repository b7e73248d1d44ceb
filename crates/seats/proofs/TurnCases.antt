-- What a turn that is not refused has shown of the seats, and what a turn can be: a refusal, none, or a seat's slice.
-- Assumes nothing.
use mathlib.Core.Path.{◌≡◌, refl}
use mathlib.Core.List.{List, [], ◌∷◌}
use mathlib.Core.Bool.{Bool, true, false, not, ◌||◌}
use Prim.Native.Nat.{ℕ, zero, suc, ◌+◌, ◌%◌, ◌≤◌, ◌<◌}
use native.Mathlib.Nat.{mod-lt}
use native.Mathlib.Omega.{arith}
use lib.Dec.{eqb, ltb}
use lib.ListN.{length}
use borrow.Author.Tests.{eqb-true, eqb-false, ltb-false, not-false}
use Rattle.std.specs.Prelude.{Option, Some, None, Result, Ok, Err, ⊤}
use Rattle.slices.specs.Checks.{NoneBroken, first_broken}
use Rattle.slices.proofs.Bools.{by_test, neither}
use Rattle.slices.proofs.Checks.{Numbered}
use Rattle.seats.specs.Room.{Room, max_seats, bank_at, begin_of, length_at, seat_of}
use Rattle.seats.specs.Turn.{TurnCall, TurnOutcome, turn_outcome, bad_seats, bad_slice, bad_banks, bad_lengths, bad_buffers, any_of, refusal_number, Cause, turn_causes, first_cause, turn_fault, checks_of, turn_checks, can_go, goes_in, seat_after, first_from, next_seat, ran_of, made_of, turn_by, turn_of, max_slice}
use Rattle.seats.specs.declared.TurnRefusal.{TurnRefusal}
use Rattle.seats.specs.internal.Places.{Fitting, SeatPlaces}
use Rattle.seats.proofs.Begins.{ends_before}

-- ---- the rules that a call keeps

pub numbered : (n slice : ℕ) (w : Room) → Numbered (turn_checks n slice w)
numbered n slice w = (omega arith, (omega arith, (omega arith, (omega arith, tt))))

none_given : (xs : List Cause) → first_cause xs ≡ Ok tt → NoneBroken (checks_of xs)
none_given [] e = tt
none_given (x ∷ xs) e =
    by_test x.given
    (λ q. let f : Err x.refusal ≡ Ok tt = rw q at e in absurd (let z : ◌≡◌ {A = ℕ} 0 1 = cc in omega arith))
    (λ q. (q, none_given xs (rw q at e)))

pub passed : (n slice : ℕ) (w : Room) → turn_fault n slice w ≡ Ok tt → NoneBroken (turn_checks n slice w)
unfolding turn_fault
passed n slice w e = none_given (turn_causes n slice w) e

-- a refusal's number is that of the first broken rule
refused_first : (xs : List Cause) (r : TurnRefusal) → first_cause xs ≡ Err r → refusal_number r ≡ first_broken (checks_of xs)
unfolding first_broken
refused_first [] r e = absurd (let z : ◌≡◌ {A = ℕ} 0 1 = cc in omega arith)
refused_first (x ∷ xs) r e =
    by_test x.given
    (λ q. let f : ◌≡◌ {A = Result ⊤ TurnRefusal} (Err x.refusal) (Err r) = rw q at e in let z : x.refusal ≡ r = cc in rw (q, first_broken, z) (omega arith))
    (λ q. rw (q, first_broken) (refused_first xs r (rw q at e)))

pub fault_first : (n slice : ℕ) (w : Room) (r : TurnRefusal) → turn_fault n slice w ≡ Err r → refusal_number r ≡ first_broken (turn_checks n slice w)
unfolding turn_fault
fault_first n slice w r e = refused_first (turn_causes n slice w) r e

-- what the first two tell of the call
pub record Bounded (n slice : ℕ) : Type 0 where
  pub some_seats : 0 < n
  pub most_seats : n ≤ max_seats
  pub some_steps : 0 < slice
  pub most_steps : slice ≤ max_slice

pub bounded : (n slice : ℕ) → bad_seats n ≡ false → bad_slice slice ≡ false → Bounded n slice
bounded n slice e f =
    let t = neither (eqb n 0) (ltb max_seats n) e in
    let u = neither (eqb slice 0) (ltb max_slice slice) f in
    let a = eqb-false n 0 t.0 in
    let b = eqb-false slice 0 u.0 in
    record {
      some_seats = omega arith;
      most_seats = ltb-false max_seats n t.1;
      some_steps = omega arith;
      most_steps = ltb-false max_slice slice u.1;
    }

is_equal : (a b : ℕ) → not (eqb a b) ≡ false → a ≡ b
is_equal a b e = eqb-true a b (not-false (eqb a b) e)

-- every buffer is filled by n seats
abbrev pub buffers_bad : ℕ → Room → Bool
buffers_bad n w = bad_buffers n w.opcodes w.arguments w.keys w.ram w.stack w.rolls w.key_lengths w.roll_lengths

pub fitting : (n : ℕ) (w : Room) → buffers_bad n w ≡ false → Fitting n w
unfolding bad_buffers
fitting n w e =
    let a = bad_banks n w.opcodes in
    let b = bad_banks n w.arguments in
    let c = bad_banks n w.ram in
    let d = bad_banks n w.stack in
    let k = bad_lengths n w.key_lengths w.keys in
    let r = bad_lengths n w.roll_lengths w.rolls in
    let t₅ = neither (a || b || c || d || k) r e in
    let t₄ = neither (a || b || c || d) k t₅.0 in
    let t₃ = neither (a || b || c) d t₄.0 in
    let t₂ = neither (a || b) c t₃.0 in
    let t₁ = neither a b t₂.0 in
    record {
      opcodes = is_equal (length w.opcodes) (bank_at n) t₁.0;
      arguments = is_equal (length w.arguments) (bank_at n) t₁.1;
      ram = is_equal (length w.ram) (bank_at n) t₂.1;
      stack = is_equal (length w.stack) (bank_at n) t₃.1;
      keys = is_equal (begin_of w.key_lengths n) (length w.keys) t₄.1;
      rolls = is_equal (begin_of w.roll_lengths n) (length w.rolls) t₅.1;
    }

-- so every seat has its places
pub places : (n : ℕ) (w : Room) → Fitting n w → (i : ℕ) → i < n → SeatPlaces w i
places n w f i h =
    let k : begin_of w.key_lengths i + length_at w.key_lengths i ≤ begin_of w.key_lengths n = ends_before w.key_lengths i n h in
    let l : begin_of w.roll_lengths i + length_at w.roll_lengths i ≤ begin_of w.roll_lengths n = ends_before w.roll_lengths i n h in
    record {
      opcodes = omega (arith, f.opcodes);
      arguments = omega (arith, f.arguments);
      ram = omega (arith, f.ram);
      stack = omega (arith, f.stack);
      keys = omega (arith, f.keys);
      rolls = omega (arith, f.rolls);
    }

-- where no seat fails a test, each passes it
pub any_none : (fails : ℕ → Bool) (n i : ℕ) → any_of fails n ≡ false → i < n → fails i ≡ false
unfolding any_of
any_none fails zero i e h = absurd (omega arith)
any_none fails (suc n) i e h =
    let t = neither (any_of fails n) (fails n) e in
    by_test (eqb i n)
    (λ q. rw (eqb-true i n q) t.1)
    (λ q. let z = eqb-false i n q in any_none fails n i t.0 (omega arith))

-- ---- the seat found

-- it is one of n, and goes
pub record Fit (goes : ℕ → Bool) (n j : ℕ) : Type 0 where
  pub below : j < n
  pub passes : goes j ≡ true

abbrev pub FoundFits : (ℕ → Bool) → ℕ → Option ℕ → Type 0
FoundFits goes n None = Unit {0}
FoundFits goes n (Some j) = Fit goes n j

pub after_below : (n i : ℕ) → i < n → seat_after n i < n
after_below n i h =
    by_test (eqb (i + 1) n)
    (λ e. rw e (omega arith))
    (λ e. let q = eqb-false (i + 1) n e in rw e (omega arith))

pub found_fits : (goes : ℕ → Bool) (n k i : ℕ) → i < n → FoundFits goes n (first_from goes n i k)
unfolding first_from
found_fits goes n zero i h = tt
found_fits goes n (suc k) i h =
    by_test (goes i)
    (λ e. rw (first_from, e) (record { below = h; passes = e }))
    (λ e. rw (first_from, e) (found_fits goes n k (seat_after n i) (after_below n i h)))

-- ---- the cases of a turn

-- a seat that ran
pub record RanThere (c : TurnCall) (w : Room) (j : ℕ) : Type 0 where
  pub kept : NoneBroken (turn_checks c.seats c.slice w)
  pub below : j < c.seats
  pub goes : can_go (seat_of w j) ≡ true
  pub found : next_seat c w ≡ Some j

-- no seat that could run
pub record NoneThere (c : TurnCall) (w : Room) : Type 0 where
  pub kept : NoneBroken (turn_checks c.seats c.slice w)
  pub found : next_seat c w ≡ None

pub turn_cases : (P : TurnOutcome → Type 0) (c : TurnCall) (w : Room)
    → ((r : TurnRefusal) → turn_fault c.seats c.slice w ≡ Err r → P (turn_outcome (Err r) w)) → (NoneThere c w → P (turn_outcome (Ok None) w))
    → ((j : ℕ) → RanThere c w j → P (ran_of c w j)) → P (turn_of c w)
unfolding turn_of
turn_cases P c w refused idle ran = by_fault (turn_fault c.seats c.slice w) refl
  where
    made : NoneBroken (turn_checks c.seats c.slice w) → (x : Option ℕ) → next_seat c w ≡ x → FoundFits (goes_in w) c.seats x → P (made_of c w x)
    made k None e f = idle (record { kept = k; found = e })
    made k (Some j) e f = ran j (record { kept = k; below = f.below; goes = f.passes; found = e })

    by_fault : (f : Result ⊤ TurnRefusal) → turn_fault c.seats c.slice w ≡ f → P (turn_by f c w)
    by_fault (Ok u) e =
        let k = passed c.seats c.slice w e in
        let b = bounded c.seats c.slice k.0 k.1.0 in
        made k (next_seat c w) refl (found_fits (goes_in w) c.seats c.seats (c.from % c.seats) (mod-lt c.from b.some_seats))
    by_fault (Err r) e = refused r e
