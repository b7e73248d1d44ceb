-- What the judges answer of a file, in the terms of the definitions.
-- Assumes nothing.
use Rattle.std.specs.Prelude.{ℕ, ◌*◌, ◌≤◌, ◌≡◌, Bool, false, cond, ◌&&◌, List, [], ◌∷◌, length, drop, eqb, Result, Ok, Err}
use Rattle.groups.specs.Faults.{fault_number}
use Rattle.groups.specs.Fields.{Read, got, refused, and_then, field_in, numbers_in}
use Rattle.groups.specs.declared.Refusal.{Refusal}
use Rattle.files.specs.File.{count_field, address_fields, byte_fields, listing_of, listing_in}
use Rattle.checking.specs.declared.reading.Address.{Address}
use Rattle.checking.specs.declared.judging.Contents.{Contents}

-- ---- what an answer says of the file that was read

abbrev pub address_by : List ℕ → Result (Address × ℕ) Refusal → Read (List ℕ)
address_by file (Ok r) = got (r.0.opcode ∷ r.0.argument ∷ r.0.word ∷ []) (drop r.1 file)
address_by file (Err r) = refused (fault_number r.fault) (drop r.at file)

-- where bytes end
abbrev pub end_by : List ℕ → Result ℕ Refusal → Read ℕ
end_by file (Ok next) = got 0 (drop next file)
end_by file (Err r) = refused (fault_number r.fault) (drop r.at file)

abbrev pub end_place : Result ℕ Refusal → ℕ
end_place (Ok next) = next
end_place (Err r) = r.at

-- ---- what they are to answer

-- whether the last three numbers are 0; b where there are none
abbrev pub last_blank : Bool → List ℕ → Bool
last_blank b [] = b
last_blank b (o ∷ []) = b
last_blank b (o ∷ g ∷ []) = b
last_blank b (o ∷ g ∷ w ∷ ys) = last_blank (eqb o 0 && (eqb g 0 && eqb w 0)) ys

abbrev pub ends : Bool → List ℕ → List ℕ → Read Bool
ends b xs rest = got (last_blank b xs) rest

-- of n addresses, whether the last is blank
unfoldable pub addresses_walk : ℕ → List ℕ → Read Bool
addresses_walk n bs = and_then (numbers_in (address_fields n) bs) (ends false)

abbrev pub past : List ℕ → List ℕ → Read ℕ
past rs rest = got 0 rest

-- of m bytes, where they end
unfoldable pub bytes_end : ℕ → List ℕ → Read ℕ
bytes_end m bs = and_then (numbers_in (byte_fields m) bs) past

-- n isn't least, or bytes follow, or k routines stand in front of a list
abbrev pub followed : (k : ℕ) (list : List ℕ) → List ℕ → Read ℕ
followed k list [] = got k list
followed k list (b ∷ bs) = refused 31 (b ∷ bs)

abbrev pub lastly : (file : List ℕ) → Bool → (k : ℕ) (list left : List ℕ) → Read ℕ
lastly file blank k list left = cond blank (refused 31 file) (followed k list left)

-- the number of routines, and the bytes that begin with theirs
unfoldable pub list_walk : (file : List ℕ) → Bool → List ℕ → Read ℕ
list_walk file blank bs =
    and_then (field_in count_field bs) (λ k list.
    and_then (numbers_in (byte_fields (2 * k)) list) (λ rs left.
    lastly file blank k list left))

-- a file that opens, with the numbers of n addresses from a place on and the bytes of k routines from another
pub record Passed (file : List ℕ) (n addresses k list : ℕ) : Type 0 where
  pub numbers : List ℕ
  pub behind : List ℕ
  pub bytes : List ℕ
  pub few : k ≤ 64
  pub numbers_at : numbers_in (address_fields n) (drop addresses file) ≡ got numbers behind
  pub bytes_at : numbers_in (byte_fields (2 * k)) (drop list file) ≡ got bytes []
  pub opens_to : listing_in file ≡ got (listing_of numbers bytes) []

-- a file that is refused at a place
pub record Stopped (file : List ℕ) (q at : ℕ) : Type 0 where
  pub stops : listing_in file ≡ refused q (drop at file)
  pub within : at ≤ length file

abbrev pub Judges : List ℕ → Result Contents Refusal → Type 0
Judges file (Ok c) = Passed file c.n c.addresses c.routines c.list
Judges file (Err r) = Stopped file (fault_number r.fault) r.at
