-- 02, [4]: "Listings admitted so far remain admitted". The former rules are the present ones by the former table.
-- Assumes nothing.
use Rattle.std.specs.Prelude.{ℕ, ◌≡◌, Bool, true, false, ◌&&◌, leb}
use Rattle.alu.specs.Alu.{settles_of}
use Rattle.rules.specs.Grounds.{admit_by}
use Rattle.rules.specs.Sheet.{Listing}

-- the former table. 01: "V: signed overflow for add, addc, sub, subb", "unsettled after every other ALU function", 0000 among them
abbrev pub formerly_settles : ℕ → Bool
formerly_settles f = leb 0b0001 f && leb f 0b0100

-- a table settles V wherever another one does
abbrev pub SettlesMore : (less more : ℕ → Bool) → Type 0
SettlesMore less more = (f : ℕ) → less f ≡ true → more f ≡ true

-- the rules under it admit whatever the rules under the other one admit
abbrev pub AdmitsMore : Listing → Type 0
AdmitsMore L = (less more : ℕ → Bool) → SettlesMore less more → admit_by less L ≡ 0 → admit_by more L ≡ 0

pub record Remains (L : Listing) (answer : ℕ) : Type 0 where
  -- the tables differ at function 0000 alone
  pub mov_unsettled : formerly_settles 0b0000 ≡ false
  pub others_alike : (f : ℕ) → (f ≡ 0b0000 → ⊥) → formerly_settles f ≡ settles_of f
  pub admitted : admit_by formerly_settles L ≡ 0 → answer ≡ 0
  pub admits_more : AdmitsMore L
