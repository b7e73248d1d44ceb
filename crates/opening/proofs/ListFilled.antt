-- The loop that fills the list: the bytes before i are those of the routines, and the others stand from `next` on.
-- Assumes nothing.
use Prim.Native.Nat.{ℕ, ◌+◌, ◌-◌, ◌≤◌, ◌<◌}
use native.Mathlib.Omega.{arith}
use native.Mathlib.Nat.{sub-zero}
use mathlib.Core.Path.{◌≡◌, refl, sym, ap, ◌∙◌}
use mathlib.Core.Bool.{true, false}
use mathlib.Core.List.{List, [], ◌∷◌}
use lib.ListN.{length, get_or, set, drop, length-set}
use lib.Dec.{ltb}
use borrow.Author.Tests.{ltb-true, ltb-false}
use Rattle.slices.specs.Parts.{padded}
use Rattle.slices.proofs.Bools.{by_test}
use Rattle.slices.proofs.Filling.{Filled, fill_start, fill_put, fill_end}
use Rattle.slices.proofs.Padded.{padded_at, padded_long}
use Rattle.groups.specs.Fields.{got, numbers_in}
use Rattle.groups.proofs.Rows.{row_ahead, none_ahead, field_of}
use Rattle.groups.proofs.Fields.{InFields}
use Rattle.files.specs.File.{byte_field, byte_fields}
use Rattle.opening.specs.internal.Fills.{ByteIs, TakesByte, FillsBytes}

pub record ListTo (file : List ℕ) (m : ℕ) (rs rest : List ℕ) (i next : ℕ) (list : List ℕ) : Type 0 where
  pub ahead : numbers_in (byte_fields (m - i)) (drop next file) ≡ got (drop i rs) rest
  pub bytes : Filled (padded 128 rs) list i

pub record ListFilling (file : List ℕ) (at m i next : ℕ) (list : List ℕ) : Type 0 where
  pub long : length list ≡ 128
  pub filled : (rs rest : List ℕ) → numbers_in (byte_fields m) (drop at file) ≡ got rs rest → ListTo file m rs rest i next list

pub list_starts : (file : List ℕ) (at m : ℕ) (list : List ℕ) → length list ≡ 128 → ListFilling file at m 0 at list
list_starts file at m list l =
    record { long = l; filled = λ rs rest e. record { ahead = rw (sub-zero m) e; bytes = fill_start (l ∙ sym (padded_long 128 rs)) } }

record Turn (file : List ℕ) (m : ℕ) (rs rest : List ℕ) (i : ℕ) (t : ℕ × ℕ) : Type 0 where
  value : t.0 ≡ get_or rs i 0
  ahead : numbers_in (byte_fields (m - (i + 1))) (drop t.1 file) ≡ got (drop (i + 1) rs) rest

turn_put : (file : List ℕ) (m : ℕ) (rs rest : List ℕ) (i : ℕ) (t : ℕ × ℕ) {v : ℕ} {mid : List ℕ} → ByteIs file v mid t → get_or rs (i + 0) 0 ≡ v
    → numbers_in (byte_fields (m - (i + 1))) mid ≡ got (drop (i + 1) rs) rest → Turn file m rs rest i t
turn_put file m rs rest i t b e r =
    let here : get_or rs i 0 ≡ get_or rs (i + 0) 0 = ap (λ (j : ℕ). get_or rs j 0) (omega arith) in
    record { value = b.value ∙ sym (here ∙ e); ahead = ap (numbers_in (byte_fields (m - (i + 1)))) b.next ∙ r }

module _ (file : List ℕ) (m : ℕ) (rs rest : List ℕ) (i next : ℕ) (t : ℕ × ℕ) (e : numbers_in (byte_fields (m - i)) (drop next file) ≡ got (drop i rs) rest) where
  turn_one : (zs mid : List ℕ) → InFields (byte_fields 1) zs → numbers_in (byte_fields 1) (drop next file) ≡ got zs mid → ((d : ℕ) → d < 1 → get_or rs (i + d) 0 ≡ get_or zs d 0)
      → numbers_in (byte_fields (m - (i + 1))) mid ≡ got (drop (i + 1) rs) rest → TakesByte file next true t → Turn file m rs rest i t
  turn_one (v ∷ []) mid f r h o k = turn_put file m rs rest i t (k.some refl v mid (field_of byte_field (drop next file) r)) (h 0 (omega arith)) o
  turn_one [] mid f r h o k = absurd f
  turn_one (v ∷ x ∷ zs) mid f r h o k = absurd f.2

  turn_some : i < m → TakesByte file next true t → Turn file m rs rest i t
  turn_some l k =
      let s = row_ahead (byte_fields 1) (m - i) (m - (i + 1)) (drop next file) rs i rest (omega arith) e in
      turn_one s.here s.mid s.fit s.reads s.numbers s.others k

  turn_none : m ≤ i → TakesByte file next false t → Turn file m rs rest i t
  turn_none l k =
      let s = none_ahead (byte_fields 1) (m - i) (drop next file) rs i rest (omega arith) e in
      let z : m - (i + 1) ≡ 0 = omega arith in
      turn_put file m rs rest i t (k.none refl) (s.numbers 0) (rw z s.others)

  turn : TakesByte file next (ltb i m) t → Turn file m rs rest i t
  turn k =
      by_test (ltb i m)
      (λ s. turn_some (ltb-true i m s) (rw s at k))
      (λ s. turn_none (ltb-false i m s) (rw s at k))

pub list_goes : {file : List ℕ} {at m i next : ℕ} {list : List ℕ} (t : ℕ × ℕ) → ListFilling file at m i next list → i < 128 → TakesByte file next (ltb i m) t
    → ListFilling file at m (i + 1) t.1 (set list i t.0)
list_goes {file} {at} {m} {i} {next} {list} t f h k =
    record {
      long = length-set list i t.0 ∙ f.long;
      filled = λ rs rest e.
          let p = f.filled rs rest e in
          let u = turn file m rs rest i next t p.ahead k in
          let l = padded_long 128 rs in
          record { ahead = u.ahead; bytes = fill_put p.bytes (omega arith) (u.value ∙ sym (padded_at 128 rs i h)) };
    }

pub list_ends : {file : List ℕ} {at m i next : ℕ} {list : List ℕ} → ListFilling file at m i next list → 128 ≤ i → FillsBytes file at m list
list_ends f h rs rest e = let l = padded_long 128 rs in fill_end (f.filled rs rest e).bytes (omega arith)
