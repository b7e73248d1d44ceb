-- The sheet and the list of settled words. They are admitted or nothing is.
-- Assumes nothing.
use Rattle.std.specs.Prelude.{ℕ, zero, suc, ◌+◌, ◌*◌, ◌%◌, Bool, cond, ◌&&◌, List, [], ◌∷◌, eqb, get_or}
use Rattle.model.specs.Step.{Program}
use Rattle.rules.specs.Sheet.{Listing}
use Rattle.slices.specs.Sizes.{bank_size}
use Rattle.drawings.specs.Drawn.{listed}
use Rattle.drawings.specs.internal.Cells.{bit, seen, need_in, depth_in, entry_in, mark_in}

-- whether an address is the entry of its own routine
unfoldable pub is_entry : List ℕ → ℕ → Bool
is_entry ws e = seen (get_or ws e 0) && eqb (entry_in (get_or ws e 0)) e

-- the number of entries below an address: the number of the routine whose entry it is
unfoldable pub rank : List ℕ → ℕ → ℕ
rank ws zero = 0
rank ws (suc a) = cond (is_entry ws a) (suc (rank ws a)) (rank ws a)

-- entry and need of each entry among the n addresses from i on
unfoldable pub list_from : List ℕ → (i n : ℕ) → List ℕ
list_from ws i zero = []
list_from ws i (suc n) = cond (is_entry ws i) (i ∷ need_in (get_or ws i 0) ∷ list_from ws (suc i) n) (list_from ws (suc i) n)

-- the two bytes of an address
unfoldable pub low_byte : List ℕ → ℕ → ℕ
low_byte ws a = depth_in (get_or ws a 0)

unfoldable pub high_byte : List ℕ → ℕ → ℕ
high_byte ws a =
    cond (seen (get_or ws a 0)) (128 + 64 * bit (mark_in (get_or ws a 0)) + rank ws (entry_in (get_or ws a 0)) % 64) 0

unfoldable pub sheet_from : List ℕ → (i n : ℕ) → List ℕ
sheet_from ws i zero = []
sheet_from ws i (suc n) = low_byte ws i ∷ high_byte ws i ∷ sheet_from ws (suc i) n

abbrev pub sheet_of : List ℕ → List ℕ
sheet_of ws = sheet_from ws 0 bank_size

abbrev pub list_of : List ℕ → List ℕ
list_of ws = list_from ws 0 bank_size

unfoldable pub draft_of : Program → List ℕ → Listing
draft_of p ws = listed p (sheet_of ws) (list_of ws)
