-- A list with zeros behind it: how long it is, and what it reads as.
-- Assumes nothing.
use Prim.Native.Nat.{ℕ, zero, suc, ◌<◌}
use native.Mathlib.Omega.{arith}
use mathlib.Core.Path.{◌≡◌, refl}
use mathlib.Core.List.{List, [], ◌∷◌, ◌++◌}
use lib.ListN.{length, get_or, take, replicate, length-append, length-replicate}
use lib.Seq.{length-take-le}
use Rattle.slices.specs.Parts.{padded}

zeros_taken : (n m j : ℕ) → ◌≡◌ {A = ℕ} (get_or (take n (replicate m 0)) j 0) 0
zeros_taken zero m j = refl
zeros_taken (suc n) zero j = refl
zeros_taken (suc n) (suc m) zero = refl
zeros_taken (suc n) (suc m) (suc j) = zeros_taken n m j

taken_at : (l : List ℕ) (n m j : ℕ) → j < n → get_or (take n (l ++ replicate m 0)) j 0 ≡ get_or l j 0
taken_at l zero m j h = absurd (omega arith)
taken_at [] (suc n) m j h = zeros_taken (suc n) m j
taken_at (x ∷ l) (suc n) m zero h = refl
taken_at (x ∷ l) (suc n) m (suc j) h = taken_at l n m j (omega arith)

pub padded_at : (n : ℕ) (l : List ℕ) (j : ℕ) → j < n → get_or (padded n l) j 0 ≡ get_or l j 0
padded_at n l j h = taken_at l n n j h

pub padded_long : (n : ℕ) (l : List ℕ) → length (padded n l) ≡ n
padded_long n l =
    let p = length-append l (replicate n 0) in
    let r = length-replicate {A = ℕ} n 0 in
    length-take-le n (l ++ replicate n 0) (omega arith)
