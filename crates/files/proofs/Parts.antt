-- A file in its parts: read from the front they come back, and a file that is read was made of them.
-- Assumes nothing.
use Prim.Native.Nat.{ℕ, ◌*◌, ◌≤◌}
use native.Mathlib.Omega.{arith}
use mathlib.Core.Path.{◌≡◌, refl}
use mathlib.Core.List.{List, [], ◌∷◌, ◌++◌, append-nil}
use lib.Dec.{eqb}
use borrow.Author.Tests.{eqb-true}
use Rattle.slices.specs.Lists.{Bytes}
use Rattle.groups.specs.Fields.{got, field_in, numbers_in}
use Rattle.groups.specs.Groups.{groups_of, row_of}
use Rattle.groups.proofs.Fields.{InFields, row_append, read_field, field_fits, field_read, reads_row, row_fits, row_read, bytes_behind}
use Rattle.groups.proofs.Readings.{not_got, came, chosen}
use Rattle.rules.specs.Sheet.{Listing}
use Rattle.files.specs.File.{n_field, count_field, least_of, address_fields, byte_fields, listing_of, left_over, at_last, listing_in}

-- n, the numbers of the addresses, the number of routines, their numbers, and what is left over
abbrev pub in_parts : (n : ℕ) → List ℕ → (k : ℕ) → List ℕ → List ℕ → List ℕ
in_parts n xs k rs left = groups_of n ++ (row_of xs ++ (groups_of k ++ (row_of rs ++ left)))

pub row_parts : (n : ℕ) (xs : List ℕ) (k : ℕ) (rs : List ℕ) → row_of (n ∷ (xs ++ (k ∷ rs))) ≡ in_parts n xs k rs []
unfolding row_of
row_parts n xs k rs = rw (row_append xs (k ∷ rs), append-nil (row_of rs))

pub read_parts : (n : ℕ) (xs : List ℕ) (k : ℕ) (rs left : List ℕ) → n ≤ n_field.high → InFields (address_fields n) xs → count_field.low ≤ k → k ≤ count_field.high
    → InFields (byte_fields (2 * k)) rs → listing_in (in_parts n xs k rs left) ≡ at_last (in_parts n xs k rs left) n (listing_of xs rs) left
unfolding listing_in
read_parts n xs k rs left l h s f r =
    rw (
      read_field n_field n (row_of xs ++ (groups_of k ++ (row_of rs ++ left))) (omega arith) l,
      reads_row (address_fields n) xs (groups_of k ++ (row_of rs ++ left)) h,
      read_field count_field k (row_of rs ++ left) s f,
      reads_row (byte_fields (2 * k)) rs left r,
    )

pub record InParts (file : List ℕ) (L : Listing) : Type 0 where
  pub n : ℕ
  pub numbers : List ℕ
  pub k : ℕ
  pub list : List ℕ
  pub n_within : n ≤ n_field.high
  pub numbers_fit : InFields (address_fields n) numbers
  pub some : count_field.low ≤ k
  pub few : k ≤ count_field.high
  pub list_fit : InFields (byte_fields (2 * k)) list
  pub is_least : least_of (listing_of numbers list) ≡ n
  pub file_is : file ≡ in_parts n numbers k list []
  pub listing_is : listing_of numbers list ≡ L

-- nothing is left over
nothing_left : (L : Listing) (left : List ℕ) {M : Listing} {rest : List ℕ} → left_over L left ≡ got M rest → (left ≡ []) × (L ≡ M)
nothing_left L [] {M} e = (refl, cc)
nothing_left L (b ∷ bs) e = not_got e

joined : {file behind after last left : List ℕ} (n : ℕ) (xs : List ℕ) (k : ℕ) (rs : List ℕ) → file ≡ groups_of n ++ behind → behind ≡ row_of xs ++ after
    → after ≡ groups_of k ++ last → last ≡ row_of rs ++ left → left ≡ [] → file ≡ in_parts n xs k rs []
joined n xs k rs a b c d e = rw (a, b, c, d, e)

parts_put : (file : List ℕ) → Bytes file → {n k : ℕ} {xs rs behind after last left rest : List ℕ} {L : Listing} → field_in n_field file ≡ got n behind
    → numbers_in (address_fields n) behind ≡ got xs after → field_in count_field after ≡ got k last → numbers_in (byte_fields (2 * k)) last ≡ got rs left
    → at_last file n (listing_of xs rs) left ≡ got L rest → InParts file L
unfolding at_last
parts_put file ok {n} {k} {xs} {rs} {behind} {after} {last} {left} a b c d e =
    let t = chosen (eqb (least_of (listing_of xs rs)) n) 31 file e in
    let u = nothing_left (listing_of xs rs) left t.1 in
    let fa = field_fits n_field file a in
    let fc = field_fits count_field after c in
    let pa = field_read n_field file ok a in
    let oa = bytes_behind (groups_of n) behind (rw pa at ok) in
    let pb = row_read (address_fields n) behind oa b in
    let ob = bytes_behind (row_of xs) after (rw pb at oa) in
    let pc = field_read count_field after ob c in
    let oc = bytes_behind (groups_of k) last (rw pc at ob) in
    let pd = row_read (byte_fields (2 * k)) last oc d in
    record {
      n = n;
      numbers = xs;
      k = k;
      list = rs;
      n_within = fa.high;
      numbers_fit = row_fits (address_fields n) behind b;
      some = fc.low;
      few = fc.high;
      list_fit = row_fits (byte_fields (2 * k)) last d;
      is_least = eqb-true (least_of (listing_of xs rs)) n t.0;
      file_is = joined n xs k rs pa pb pc pd u.0;
      listing_is = u.1;
    }

pub parts_read : (file : List ℕ) → Bytes file → {L : Listing} {left : List ℕ} → listing_in file ≡ got L left → InParts file L
unfolding listing_in
parts_read file ok e =
    let a = came (field_in n_field file) _ e in
    let b = came (numbers_in (address_fields a.value) a.left) _ a.second in
    let c = came (field_in count_field b.left) _ b.second in
    let d = came (numbers_in (byte_fields (2 * c.value)) c.left) _ c.second in
    parts_put file ok a.first b.first c.first d.first d.second
