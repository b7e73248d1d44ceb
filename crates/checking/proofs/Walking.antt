-- The two loops of the judges: what is left, judged from here, gives the answer of the whole.
-- Assumes nothing.
use Prim.Native.Nat.{ℕ, ◌+◌, ◌≤◌, ◌<◌}
use mathlib.Core.Path.{◌≡◌, refl}
use mathlib.Core.Bool.{Bool, false, ◌&&◌}
use mathlib.Core.List.{List, [], ◌∷◌}
use lib.ListN.{drop}
use lib.Dec.{eqb}
use Rattle.std.specs.Prelude.{Result, Ok}
use Rattle.groups.specs.declared.Refusal.{Refusal}
use Rattle.groups.specs.Fields.{Read, got, refused, field_in, numbers_in}
use Rattle.groups.specs.internal.Places.{read_by, place_of, ReadsAs}
use Rattle.groups.proofs.Rows.{Rows, rows_stop, rows_go, rows_end, field_stops, one_field}
use Rattle.files.specs.File.{byte_field, address_fields, byte_fields}
use Rattle.checking.specs.internal.Judges.{end_by, end_place, ends, addresses_walk, past, bytes_end}

-- ---- an answer, by its case

module _ (file : List ℕ) (at : ℕ) where
  pub walk_on : {meant : Read Bool} {r : Result (Bool × ℕ) Refusal} {next : ℕ} {b : Bool} → ReadsAs file at meant (read_by file r) (place_of r) → r ≡ Ok (b, next)
      → ReadsAs file at meant (got b (drop next file)) next
  walk_on h e = rw e at h

  pub end_met : {meant : Read ℕ} {r : Result ℕ Refusal} {next : ℕ} → ReadsAs file at meant (end_by file r) (end_place r) → r ≡ Ok next
      → ReadsAs file at meant (got 0 (drop next file)) next
  end_met h e = rw e at h

-- ---- the addresses: rows of three fields

abbrev pub Walking : (file : List ℕ) (at n a next : ℕ) → Bool → Type 0
Walking file at n a next b = Rows (address_fields 1) file at n a next (ends false) (ends b)

module _ {file : List ℕ} {at n a next : ℕ} {b : Bool} (w : Walking file at n a next b) where
  pub walk_stops : {q p : ℕ} → a < n → ReadsAs file next (numbers_in (address_fields 1) (drop next file)) (refused q (drop p file)) p
      → ReadsAs file at (addresses_walk n (drop at file)) (refused q (drop p file)) p
  unfolding addresses_walk
  walk_stops {q} {p} l h = rows_stop w q p l h

  pub walk_goes : {o g x behind : ℕ} → a < n → ReadsAs file next (numbers_in (address_fields 1) (drop next file)) (got (o ∷ g ∷ x ∷ []) (drop behind file)) behind
      → Walking file at n (a + 1) behind (eqb o 0 && (eqb g 0 && eqb x 0))
  walk_goes {o} {g} {x} {behind} l h = rows_go w (o ∷ g ∷ x ∷ []) behind _ l h (λ ys rest. refl)

  pub walk_ends : n ≤ a → ReadsAs file at (addresses_walk n (drop at file)) (got b (drop next file)) next
  unfolding addresses_walk
  walk_ends l = rows_end w l

-- ---- the bytes of the list: rows of one field

abbrev pub Stepping : (file : List ℕ) (at m i next : ℕ) → Type 0
Stepping file at m i next = Rows (byte_fields 1) file at m i next past past

module _ {file : List ℕ} {at m i next : ℕ} (w : Stepping file at m i next) where
  pub step_stops : {q p : ℕ} → i < m → ReadsAs file next (field_in byte_field (drop next file)) (refused q (drop p file)) p
      → ReadsAs file at (bytes_end m (drop at file)) (refused q (drop p file)) p
  unfolding bytes_end
  step_stops {q} {p} l h = rows_stop w q p l (field_stops byte_field [] h)

  pub step_goes : {v behind : ℕ} → i < m → ReadsAs file next (field_in byte_field (drop next file)) (got v (drop behind file)) behind → Stepping file at m (i + 1) behind
  step_goes {v} {behind} l h = rows_go w (v ∷ []) behind past l (one_field byte_field h) (λ ys rest. refl)

  pub step_ends : m ≤ i → ReadsAs file at (bytes_end m (drop at file)) (got 0 (drop next file)) next
  unfolding bytes_end
  step_ends l = rows_end w l
