-- 02 [7], SHELF FILES: "numbers in seven-bit groups, lowest group first, top bit set on all but the last group, always the shortest form". The
-- groups of a number, and the number in front of a row of bytes.
-- Assumes nothing.
use Rattle.std.specs.Prelude.{ℕ, zero, suc, ◌+◌, ◌*◌, ◌/◌, ◌%◌, cond, List, [], ◌∷◌, ◌++◌, eqb, ltb}

-- "seven-bit groups, lowest group first, top bit set on all but the last"; `most` bounds how many stand before the last
unfoldable pub groups_up_to : (most n : ℕ) → List ℕ
groups_up_to zero n = n ∷ []
groups_up_to (suc most) n = let more = (128 + n % 128) ∷ groups_up_to most (n / 128) in cond (ltb n 128) (n ∷ []) more

-- at most n groups of a number n stand before its last
unfoldable pub groups_of : ℕ → List ℕ
groups_of n = groups_up_to n n

-- "a row of numbers"
unfoldable pub row_of : List ℕ → List ℕ
row_of [] = []
row_of (n ∷ ns) = groups_of n ++ row_of ns

-- the number in front of a row of bytes, and the bytes behind it; none where it "is cut off or isn't shortest"
pub data Front : Type 0 where
  some : (v : ℕ) (rest : List ℕ) → Front
  none : Front

-- a group, and the number behind it. A 0 there could be left out, so it "isn't shortest"
abbrev pub grouped : ℕ → Front → Front
grouped g (some v rest) = cond (eqb v 0) none (some (g + 128 * v) rest)
grouped g none = none

-- of any number of groups; without a last one it is "cut off"
unfoldable pub number_in : List ℕ → Front
number_in [] = none
number_in (b ∷ bs) = cond (ltb b 128) (some b bs) (grouped (b % 128) (number_in bs))
