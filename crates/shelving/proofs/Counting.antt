-- The loop that finds the least n, from the last address on: those passed are blank.
-- Assumes nothing.
use Prim.Native.Nat.{ℕ, zero, suc, ◌-◌, ◌≤◌, ◌<◌}
use native.Mathlib.Omega.{arith}
use mathlib.Core.Path.{◌≡◌, sym, ap, ◌∙◌}
use mathlib.Core.Bool.{true, false}
use Rattle.rules.specs.Sheet.{Listing}
use Rattle.files.specs.File.{blank, used_below, least_of}

pub record Counting (L : Listing) (n : ℕ) : Type 0 where
  pub within : n ≤ 256
  pub left : used_below L n ≡ least_of L

here : (L : Listing) (n m : ℕ) → n ≡ suc m → blank L m ≡ false → used_below L n ≡ n
unfolding used_below
here L zero m e b = absurd (omega arith)
here L (suc k) m e b = let q : k ≡ m = omega arith in let c : blank L k ≡ false = rw q b in rw c

below : (L : Listing) (n m : ℕ) → n ≡ suc m → blank L m ≡ true → used_below L n ≡ used_below L m
unfolding used_below
below L zero m e b = absurd (omega arith)
below L (suc k) m e b = let q : k ≡ m = omega arith in let c : blank L k ≡ true = rw q b in rw (c, used_below) (ap (used_below L) q)

pub count_stops : {L : Listing} {n : ℕ} → Counting L n → 0 < n → blank L (n - 1) ≡ false → n ≡ least_of L
count_stops {L} {n} c h b = sym (here L n (n - 1) (omega arith) b) ∙ c.left

pub count_goes : {L : Listing} {n : ℕ} → Counting L n → 0 < n → blank L (n - 1) ≡ true → Counting L (n - 1)
count_goes {L} {n} c h b = let w = c.within in record { within = omega arith; left = sym (below L n (n - 1) (omega arith) b) ∙ c.left }

pub count_ends : {L : Listing} {n : ℕ} → Counting L n → n ≤ 0 → 0 ≡ least_of L
unfolding used_below
count_ends {L} {n} c h = let z : n ≡ 0 = omega arith in sym (ap (used_below L) z) ∙ c.left
