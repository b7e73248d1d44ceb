-- Demands are met by visits of addresses, in any order, until none is open.
-- Assumes nothing.
use Rattle.std.specs.Prelude.{ℕ, ◌<◌, ◌≡◌, Bool, false, not, cond, ◌||◌, List, [], ◌∷◌, length, get_or, set, replicate}
use Rattle.model.specs.Step.{Program}
use Rattle.slices.specs.Sizes.{bank_size}
use Rattle.drawings.specs.internal.Cells.{packed, merged, has, Progress}
use Rattle.drawings.specs.internal.Demands.{Demand, entry_cell, demands_at}

-- whether a demand is met
abbrev pub met : List ℕ → Demand → Bool
met ws d = has (get_or ws d.at 0) d.want

-- the words after a demand, and after several in turn
unfoldable pub meet : List ℕ → Demand → List ℕ
meet ws d = cond (met ws d) ws (set ws d.at (merged (get_or ws d.at 0) d.want))

abbrev pub meet_all : List ℕ → List Demand → List ℕ
meet_all ws [] = ws
meet_all ws (d ∷ ds) = meet_all (meet ws d) ds

-- whether one of them was not met before its turn
abbrev pub any_open : List ℕ → List Demand → Bool
any_open ws [] = false
any_open ws (d ∷ ds) = not (met ws d) || any_open (meet ws d) ds

-- what a function that meets demands answers and leaves
pub record Meets (ws ws' : List ℕ) (ds : List Demand) (changed : Bool) : Type 0 where
  pub after : ws' ≡ meet_all ws ds
  pub answers : changed ≡ any_open ws ds
  pub progress : Progress changed ws ws'
  pub long : length ws' ≡ bank_size

-- the words after a visit of an address, and whether it changed any
unfoldable pub visited : Program → List ℕ → ℕ → List ℕ
visited p ws a = meet_all ws (demands_at p ws a)

unfoldable pub is_open : Program → List ℕ → ℕ → Bool
is_open p ws a = any_open ws (demands_at p ws a)

-- address 0 alone is reached: it is routine 0's entry
unfoldable pub start : List ℕ
start = set (replicate bank_size 0) 0 (packed (entry_cell 0 0))

-- the words come from the start by visits
pub data Visits (p : Program) : List ℕ → Type 0 where
  begin : Visits p start
  visit : {ws : List ℕ} → Visits p ws → (a : ℕ) → Visits p (visited p ws a)

pub record Settled (p : Program) (ws : List ℕ) : Type 0 where
  pub visits : Visits p ws
  pub closed : (a : ℕ) → a < bank_size → is_open p ws a ≡ false

-- what a pass over all addresses, once each, answers and leaves
pub record Passes (p : Program) (ws ws' : List ℕ) (changed : Bool) : Type 0 where
  pub visits : Visits p ws'
  pub progress : Progress changed ws ws'
  pub long : length ws' ≡ bank_size
  pub closed : changed ≡ false → (a : ℕ) → a < bank_size → is_open p ws a ≡ false
