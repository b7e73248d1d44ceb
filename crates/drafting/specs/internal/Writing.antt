-- The table of routine numbers that the sheet is written from, and the list after one address was looked at.
-- Assumes nothing.
use Rattle.std.specs.Prelude.{ℕ, zero, suc, ◌+◌, ◌*◌, ◌%◌, cond, List, [], ◌∷◌, get_or, set}
use Rattle.slices.specs.Sizes.{bank_size}
use Rattle.drawings.specs.internal.Cells.{need_in}
use Rattle.drawings.specs.internal.Drafts.{is_entry, rank}

-- for each of the n addresses from i on, the number of the routine whose entry it is, if it is one
unfoldable pub numbers_from : List ℕ → (i n : ℕ) → List ℕ
numbers_from ws i zero = []
numbers_from ws i (suc n) = rank ws i % 64 ∷ numbers_from ws (suc i) n

abbrev pub numbers_of : List ℕ → List ℕ
numbers_of ws = numbers_from ws 0 bank_size

-- the number of entries after the address a, where n lie below it
unfoldable pub rank_after : List ℕ → (a n : ℕ) → ℕ
rank_after ws a n = cond (is_entry ws a) (n + 1) n

-- the list after the address a, where n entries lie below it
unfoldable pub list_after : List ℕ → (a n : ℕ) → List ℕ → List ℕ
list_after ws a n out = cond (is_entry ws a) (set (set out (2 * n) a) (2 * n + 1) (need_in (get_or ws a 0))) out
