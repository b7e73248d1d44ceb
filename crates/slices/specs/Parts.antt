-- A part of a list, and a list with a part replaced, as a lent part of a buffer comes back.
-- Assumes nothing.
use Rattle.std.specs.Prelude.{ℕ, List, ◌++◌, take, drop, replicate}

-- the n elements from a place on, or as many of them as there are
abbrev pub part_of : List ℕ → (at n : ℕ) → List ℕ
part_of l at n = take n (drop at l)

-- the first n elements, 0 past the end of l
abbrev pub padded : ℕ → List ℕ → List ℕ
padded n l = take n (l ++ replicate n 0)

-- l, with inserted in the place of its n elements from a place on
unfoldable pub replaced : List ℕ → (at n : ℕ) → List ℕ → List ℕ
replaced l at n inserted = take at l ++ (inserted ++ drop n (drop at l))
