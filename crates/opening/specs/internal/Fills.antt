-- What the opener writes, in the terms of the definitions.
-- Assumes nothing.
use Rattle.std.specs.Prelude.{ℕ, ◌≡◌, Bool, true, false, List, [], ◌∷◌, drop}
use Rattle.slices.specs.Parts.{padded}
use Rattle.groups.specs.Fields.{got, field_in, numbers_in}
use Rattle.rules.specs.Grounds.{max_list_size}
use Rattle.rules.specs.Sheet.{listing}
use Rattle.files.specs.File.{byte_field, address_fields, byte_fields, listing_of}
use Rattle.checking.specs.declared.reading.Address.{Address}

-- an address of the numbers at a place, and the bytes behind them
pub record TakenIs (file : List ℕ) (o g w : ℕ) (rest : List ℕ) (t : Address × ℕ) : Type 0 where
  pub opcode : t.0.opcode ≡ o
  pub argument : t.0.argument ≡ g
  pub word : t.0.word ≡ w
  pub next : drop t.1 file ≡ rest

-- taken where there are more, and 0 where not
pub record Takes (file : List ℕ) (at : ℕ) (more : Bool) (t : Address × ℕ) : Type 0 where
  pub some : more ≡ true → (o g w : ℕ) (rest : List ℕ) → numbers_in (address_fields 1) (drop at file) ≡ got (o ∷ g ∷ w ∷ []) rest → TakenIs file o g w rest t
  pub none : more ≡ false → TakenIs file 0 0 0 (drop at file) t

pub record ByteIs (file : List ℕ) (v : ℕ) (rest : List ℕ) (t : ℕ × ℕ) : Type 0 where
  pub value : t.0 ≡ v
  pub next : drop t.1 file ≡ rest

pub record TakesByte (file : List ℕ) (at : ℕ) (more : Bool) (t : ℕ × ℕ) : Type 0 where
  pub some : more ≡ true → (v : ℕ) (rest : List ℕ) → field_in byte_field (drop at file) ≡ got v rest → ByteIs file v rest t
  pub none : more ≡ false → ByteIs file 0 (drop at file) t

-- the banks and the sheet of n addresses' numbers at a place
abbrev pub FillsAddresses : (file : List ℕ) (at n : ℕ) → (ops args sheet : List ℕ) → Type 0
FillsAddresses file at n ops args sheet =
    (xs rest : List ℕ) → numbers_in (address_fields n) (drop at file) ≡ got xs rest → (rs : List ℕ) → listing ops args sheet rs ≡ listing_of xs rs

-- the list buffer of m bytes at a place
abbrev pub FillsBytes : (file : List ℕ) (at m : ℕ) → (list : List ℕ) → Type 0
FillsBytes file at m list = (rs rest : List ℕ) → numbers_in (byte_fields m) (drop at file) ≡ got rs rest → list ≡ padded max_list_size rs
