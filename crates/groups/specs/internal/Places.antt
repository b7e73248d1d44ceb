-- Numbers by places in a file, as the code reads them.
-- Assumes nothing.
use Rattle.std.specs.Prelude.{ℕ, suc, ◌+◌, ◌*◌, ◌%◌, ◌≤◌, ◌<◌, ◌≡◌, cond, List, [], ◌∷◌, length, drop, ltb, Option, Some, None, Result, Ok, Err}
use Rattle.groups.specs.Faults.{fault_number}
use Rattle.groups.specs.Fields.{Read, got, refused}
use Rattle.groups.specs.declared.Refusal.{Refusal}

-- what an answer says of the file that was read: a value and the bytes behind it, or a refusal
abbrev pub read_by : {V : Type 0} → List ℕ → Result (V × ℕ) Refusal → Read V
read_by file (Ok r) = got r.0 (drop r.1 file)
read_by file (Err r) = refused (fault_number r.fault) (drop r.at file)

-- the place that it gives
abbrev pub place_of : {V : Type 0} → Result (V × ℕ) Refusal → ℕ
place_of (Ok r) = r.1
place_of (Err r) = r.at

-- a file read from a place on, by an answer and the place that it gives
pub record ReadsAs {A : Type 0} (file : List ℕ) (at : ℕ) (meant answer : Read A) (place : ℕ) : Type 0 where
  pub reads : answer ≡ meant
  pub within : at ≤ length file → place ≤ length file

-- how many groups stand before the last one of the number in front
unfoldable pub last_of : List ℕ → ℕ
last_of [] = 0
last_of (b ∷ bs) = cond (ltb b 128) 0 (suc (last_of bs))

-- the number that the groups in front make, shortest or not
unfoldable pub value_in : List ℕ → ℕ
value_in [] = 0
value_in (b ∷ bs) = cond (ltb b 128) b (b % 128 + 128 * value_in bs)

-- the last group of the number at a place is found; none where it is cut off
abbrev pub EndsAt : (file : List ℕ) (at : ℕ) → Option ℕ → Type 0
EndsAt file at (Some i) = (i ≡ at + last_of (drop at file)) × (i < length file)
EndsAt file at None = length file ≤ at + last_of (drop at file)
