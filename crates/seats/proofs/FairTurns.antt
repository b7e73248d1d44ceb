-- A seat that can go on runs within as many turns as there are seats: the seat found is never past it, and each turn that runs another seat begins
-- nearer to it.
-- Assumes nothing.
use mathlib.Core.Path.{◌≡◌, refl, sym, ap, ◌∙◌}
use mathlib.Core.Bool.{Bool, true, false}
use mathlib.Core.Logic.{◌≢◌}
use mathlib.Core.List.{List, [], ◌∷◌}
use Prim.Native.Nat.{ℕ, zero, suc, ◌+◌, ◌-◌, ◌%◌, ◌≤◌, ◌<◌}
use native.Mathlib.Nat.{zero-add, suc-add, add-zero, mod-lt, mod-eq_of_lt}
use native.Mathlib.Omega.{arith}
use lib.Dec.{eqb, ltb}
use lib.ListN.{length}
use borrow.Author.Tests.{eqb-false, eq-eqb, ne_eqb, ltb-true, ltb-false}
use Rattle.std.specs.Prelude.{Some, Result, Ok, Err, ⊤}
use Rattle.slices.proofs.Bools.{by_test, neither}
use Rattle.seats.specs.Room.{Room, seat_of}
use Rattle.seats.specs.RoomPromise.{Fair}
use Rattle.seats.specs.Turn.{TurnCall, turn_call, turn_fault, can_go, goes_in, seat_after, first_from, next_seat, ran_of, made_of, turn_by, turn_of}
use Rattle.seats.specs.TurnLists.{given_by, round_of, is_refused, any_refused, ever_ran}
use Rattle.seats.specs.declared.TurnRefusal.{TurnRefusal}
use Rattle.seats.proofs.AloneRuns.{ran_other}
use Rattle.seats.proofs.TurnCases.{RanThere, bounded, passed, found_fits, after_below}

-- ---- round the seats

-- d seats further
abbrev pub around : ℕ → ℕ → ℕ → ℕ
around n zero i = i
around n (suc d) i = around n d (seat_after n i)

around_below : (n d i : ℕ) → i < n → around n d i < n
around_below n zero i h = h
around_below n (suc d) i h = around_below n d (seat_after n i) (after_below n i h)

around_past : (n e d i : ℕ) → around n (e + suc d) i ≡ around n d (seat_after n (around n e i))
around_past n zero d i = rw (zero-add (suc d))
around_past n (suc e) d i = rw (suc-add e (suc d)) (around_past n e d (seat_after n i))

pub not_last : (n i : ℕ) → i + 1 < n → seat_after n i ≡ i + 1
not_last n i h = let q : eqb (i + 1) n ≡ false = ne_eqb (i + 1) n (omega arith) in rw q

pub last : (n i : ℕ) → i + 1 ≡ n → seat_after n i ≡ 0
last n i h = let q : eqb (i + 1) n ≡ true = eq-eqb (i + 1) n h in rw q

upward : (n d i : ℕ) → i + d < n → around n d i ≡ i + d
upward n zero i h = sym (add-zero i)
upward n (suc d) i h =
    let e : seat_after n i ≡ i + 1 = not_last n i (omega arith) in
    rw e (upward n d (i + 1) (omega arith) ∙ omega arith)

-- every seat is reached from every other, fewer than n seats further
pub record Reach (n i j : ℕ) : Type 0 where
  pub far : ℕ
  pub below : far < n
  pub lands : around n far i ≡ j

pub reach : (n i j : ℕ) → i < n → j < n → Reach n i j
reach n i j h k =
    by_test (ltb j i)
    (λ t.
    let l : j < i = ltb-true j i t in
    let e : ℕ = n - suc i in
    let u : around n e i ≡ i + e = upward n e i (omega arith) in
    let v : seat_after n (i + e) ≡ 0 = last n (i + e) (omega arith) in
    record {
      far = e + suc j;
      below = omega arith;
      lands = around_past n e j i ∙ rw (u, v) (upward n j 0 (omega arith) ∙ zero-add j);
    })
    (λ t.
    let l : i ≤ j = ltb-false j i t in
    record { far = j - i; below = omega arith; lands = upward n (j - i) i (omega arith) ∙ omega arith })

-- ---- the seat found is not past one that goes

pub record Found (goes : ℕ → Bool) (n i k d : ℕ) : Type 0 where
  pub far : ℕ
  pub within : far ≤ d
  pub is : first_from goes n i k ≡ Some (around n far i)

pub finds : (goes : ℕ → Bool) (n k d i : ℕ) → goes (around n d i) ≡ true → d < k → Found goes n i k d
unfolding first_from
finds goes n zero d i p h = absurd (omega arith)
finds goes n (suc k) zero i p h = record { far = 0; within = omega arith; is = rw (first_from, p) }
finds goes n (suc k) (suc d) i p h =
    by_test (goes i)
    (λ e. record { far = 0; within = omega arith; is = rw (first_from, e) })
    (λ e.
    let f = finds goes n k d (seat_after n i) p (omega arith) in
    record { far = suc f.far; within = omega (arith, f.within); is = rw (first_from, e) f.is })

-- ---- a turn that is not refused

no_fault : (c : TurnCall) (w : Room) (f : Result ⊤ TurnRefusal) → is_refused (turn_by f c w).answer ≡ false → f ≡ Ok tt
no_fault c w (Ok u) e = refl
no_fault c w (Err r) e = absurd (let z : ◌≡◌ {A = ℕ} 0 1 = cc in omega arith)

not_refused : (c : TurnCall) (w : Room) → is_refused (turn_of c w).answer ≡ false → turn_fault c.seats c.slice w ≡ Ok tt
unfolding turn_of
not_refused c w e = no_fault c w (turn_fault c.seats c.slice w) e

pub turn_made : (c : TurnCall) (w : Room) → turn_fault c.seats c.slice w ≡ Ok tt → turn_of c w ≡ made_of c w (next_seat c w)
unfolding turn_of
turn_made c w e = rw e

-- ---- the round

-- from a seat that is d seats before i
round_runs : (n i : ℕ) (slices : List ℕ) (d from : ℕ) (w : Room) → around n d (from % n) ≡ i → d < n → d < length slices
    → can_go (seat_of w i) ≡ true → any_refused (round_of n slices from w) ≡ false → ever_ran i (round_of n slices from w) ≡ true
unfolding round_of ran_of
round_runs n i [] d from w a h l g r = absurd (omega arith)
round_runs n i (k ∷ ks) d from w a h l g r =
    let c : TurnCall = turn_call n k from in
    let o = turn_of c w in
    let t = neither (is_refused o.answer) (any_refused (round_of n ks (given_by o.answer from) o.room)) r in
    let z : turn_fault c.seats c.slice w ≡ Ok tt = not_refused c w t.0 in
    let p = passed c.seats c.slice w z in
    let f = finds (goes_in w) n n d (from % n) (rw a g) h in
    let s : from % n < n = mod-lt from (bounded c.seats c.slice p.0 p.1.0).some_seats in
    let j : ℕ = around n f.far (from % n) in
    let b : j < n = around_below n f.far (from % n) s in
    let made : o ≡ ran_of c w j = turn_made c w z ∙ ap (made_of c w) f.is in
    by_test (eqb j i)
    (λ q. rw (made, q))
    (λ q.
    let u : j ≢ i = eqb-false j i q in
    let v : f.far ≢ d = λ x. u (ap (λ (y : ℕ). around n y (from % n)) x ∙ a) in
    let e : ℕ = d - suc f.far in
    let x : f.far + suc e ≡ d = omega (arith, f.within) in
    let there : RanThere c w j = record { kept = p; below = b; goes = fits_there (goes_in w) n (from % n) j f.is s; found = f.is } in
    rw (made, q)
    (round_runs n i ks e (seat_after n j) (ran_of c w j).room
    (rw (mod-eq_of_lt (after_below n j b)) (sym (around_past n f.far e (from % n)) ∙ ap (λ (y : ℕ). around n y (from % n)) x ∙ a))
    (omega arith) (omega arith)
    (ap can_go (ran_other c w j there i q) ∙ g)
    (rw made at t.1)))
  where
    fits_there : (goes : ℕ → Bool) (n i j : ℕ) → first_from goes n i n ≡ Some j → i < n → goes j ≡ true
    fits_there goes n i j e h = (rw e at (found_fits goes n n i h)).passes

pub fair : Fair
unfolding round_of
fair n i from slices w e h g r =
    let s : 0 < n = omega arith in
    let x = reach n (from % n) i (mod-lt from s) h in
    round_runs n i slices x.far from w x.lands x.below (omega (arith, x.below)) g r
