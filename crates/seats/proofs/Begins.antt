-- Where the seats' parts of a buffer begin: each ends before any later one begins.
-- Assumes nothing.
use mathlib.Core.Path.{◌≡◌, refl}
use mathlib.Core.List.{List, [], ◌∷◌}
use Prim.Native.Nat.{ℕ, zero, suc, ◌+◌, ◌-◌, ◌≤◌, ◌<◌}
use native.Mathlib.Nat.{zero-add}
use native.Mathlib.Omega.{arith}
use lib.ListN.{take}
use Rattle.slices.specs.Lists.{total_of}
use Rattle.seats.specs.Room.{begin_of, length_at}

pub begin_next : (l : List ℕ) (i : ℕ) → begin_of l (suc i) ≡ begin_of l i + length_at l i
unfolding begin_of
begin_next [] zero = refl
begin_next [] (suc i) = refl
begin_next (x ∷ l) zero = omega arith
begin_next (x ∷ l) (suc i) =
    let h : total_of (take (suc i) l) ≡ total_of (take i l) + length_at l i = begin_next l i in
    omega arith

begin_grows : (l : List ℕ) (i k : ℕ) → begin_of l i ≤ begin_of l (k + i)
begin_grows l i zero = rw (zero-add i) (omega arith)
begin_grows l i (suc k) =
    let h : begin_of l i ≤ begin_of l (k + i) = begin_grows l i k in
    let e : suc k + i ≡ suc (k + i) = omega arith in
    let g : begin_of l (suc (k + i)) ≡ begin_of l (k + i) + length_at l (k + i) = begin_next l (k + i) in
    rw e (omega arith)

pub ends_before : (l : List ℕ) (i j : ℕ) → i < j → begin_of l i + length_at l i ≤ begin_of l j
ends_before l i j h =
    let k : ℕ = j - suc i in
    let e : k + suc i ≡ j = omega arith in
    let g : begin_of l (suc i) ≤ begin_of l (k + suc i) = begin_grows l (suc i) k in
    let g' : begin_of l (suc i) ≤ begin_of l j = rw e at g in
    let q : begin_of l (suc i) ≡ begin_of l i + length_at l i = begin_next l i in
    omega arith
