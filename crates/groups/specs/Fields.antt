-- 02 [7]: "Numbers are judged from the front, each for 30 and then its field". A row of numbers, each in its field.
-- Assumes nothing.
use Rattle.std.specs.Prelude.{ℕ, zero, suc, cond, ◌&&◌, List, [], ◌∷◌, ◌++◌, leb}
use Rattle.groups.specs.Groups.{Front, some, none, number_in}

-- what is read from the front of a row of bytes, and the bytes behind it; or the number that refuses it, and the bytes from where that is on
pub data Read (A : Type 0) : Type 0 where
  got : A → (rest : List ℕ) → Read A
  refused : (number : ℕ) → (from : List ℕ) → Read A

-- what is read next, behind what was read; the first refusal stays
abbrev pub and_then : {A B : Type 0} → Read A → (A → List ℕ → Read B) → Read B
and_then (got a rest) next = next a rest
and_then (refused q from) next = refused q from

-- the least and the greatest number of a field
pub record Field : Type 0 where
  pub low : ℕ
  pub high : ℕ

abbrev pub field : ℕ → ℕ → Field
field l h = record { low = l; high = h }

-- "30 when a number is cut off or isn't shortest; 31 when a number exceeds its field", each where the number begins
abbrev pub judged : Field → (bytes : List ℕ) → Front → Read ℕ
judged f bs (some v rest) = cond (leb f.low v && leb v f.high) (got v rest) (refused 31 bs)
judged f bs none = refused 30 bs

unfoldable pub field_in : Field → List ℕ → Read ℕ
field_in f bs = judged f bs (number_in bs)

-- a row of fields, n times
abbrev pub repeated : (n : ℕ) → List Field → List Field
repeated zero fs = []
repeated (suc n) fs = fs ++ repeated n fs

-- a number for each field, one behind another
unfoldable pub numbers_in : List Field → List ℕ → Read (List ℕ)
numbers_in [] bs = got [] bs
numbers_in (f ∷ fs) bs = and_then (field_in f bs) (λ v rest. and_then (numbers_in fs rest) (λ vs left. got (v ∷ vs) left))
