-- A file that opens is the file of what it opens to, which passes 1 to 3.
-- Assumes nothing.
use Prim.Native.Nat.{ℕ, ◌*◌, ◌/◌, ◌%◌, ◌≤◌}
use native.Mathlib.Omega.{arith}
use mathlib.Core.Path.{◌≡◌, sym, ap, ◌∙◌}
use mathlib.Core.List.{List, [], ◌∷◌, ◌++◌}
use lib.ListN.{length, get_or-eq_default}
use lib.Dec.{eqb, ltb}
use borrow.Author.Tests.{eqb-true, eqb-false, ltb-true, ltb-false}
use Rattle.slices.specs.Lists.{Bytes}
use Rattle.slices.proofs.Bools.{by_test}
use Rattle.groups.specs.Fields.{got}
use Rattle.groups.specs.Groups.{row_of}
use Rattle.groups.proofs.Fields.{InFields}
use Rattle.rules.specs.Sheet.{Listing, routines}
use Rattle.files.specs.File.{least_of, address_numbers, file_of, address_fields, byte_fields, column, word_column, listing_of, listing_in}
use Rattle.files.specs.Promise.{Passes}
use Rattle.files.proofs.Columns.{column_length, column_at, sheet_length, sheet_low, sheet_high}
use Rattle.files.proofs.Numbers.{fields_range, fields_length, own_numbers, list_length, list_bytes, listing_has}
use Rattle.files.proofs.Parts.{in_parts, row_parts, parts_read}
use Rattle.files.proofs.Sizes.{sizes_good}

column_bytes : (f : ℕ → ℕ) (n : ℕ) → ((a : ℕ) → f a ≤ 255) → Bytes (column f 0 n)
column_bytes f n h i =
    by_test (ltb i n)
    (λ t. rw (column_at f 0 n i i (ltb-true i n t) (omega arith)) (let b = h i in omega arith))
    (λ t.
    let l = ltb-false i n t in
    let c = column_length f 0 n in
    let far : length (column f 0 n) ≤ i = omega arith in
    rw (get_or-eq_default (column f 0 n) 0 far) (omega arith))

sheet_bytes : (f : ℕ → ℕ) (n : ℕ) → ((a : ℕ) → f a ≤ 65535) → Bytes (word_column f 0 n)
sheet_bytes f n h i =
    by_test (ltb (i / 2) n)
    (λ t.
    let l = ltb-true (i / 2) n t in
    let b = h (i / 2) in
    by_test (eqb (i % 2) 0)
    (λ e. let q = eqb-true (i % 2) 0 e in rw (sheet_low f 0 n (i / 2) i (i / 2) l (omega arith) (omega arith)) (omega arith))
    (λ e. let q = eqb-false (i % 2) 0 e in rw (sheet_high f 0 n (i / 2) i (i / 2) l (omega arith) (omega arith)) (omega arith)))
    (λ t.
    let l = ltb-false (i / 2) n t in
    let c = sheet_length f 0 n in
    let far : length (word_column f 0 n) ≤ i = omega arith in
    rw (get_or-eq_default (word_column f 0 n) 0 far) (omega arith))

module _ (n : ℕ) (xs : List ℕ) (k : ℕ) (rs : List ℕ) (within : n ≤ 256) (xs-fit : InFields (address_fields n) xs) (some : 1 ≤ k) (few : k ≤ 64) (rs-fit : InFields (byte_fields (2 * k)) rs) where
  pub listing_passes : Passes (listing_of xs rs)
  unfolding listing_of
  listing_passes =
      record {
        sizes = sizes_good (listing_of xs rs) k (column_length _ 0 256) (column_length _ 0 256) (sheet_length _ 0 256) (list_length (2 * k) rs rs-fit) some few;
        opcode_bytes = column_bytes _ 256 (λ a. (fields_range n xs xs-fit a).opcode);
        argument_bytes = column_bytes _ 256 (λ a. (fields_range n xs xs-fit a).argument);
        sheet_bytes = sheet_bytes _ 256 (λ a. (fields_range n xs xs-fit a).word);
        list_bytes = list_bytes (2 * k) rs rs-fit;
      }

  listing_file : least_of (listing_of xs rs) ≡ n → file_of (listing_of xs rs) ≡ in_parts n xs k rs []
  unfolding file_of routines listing_of row_of
  listing_file e =
      let l = fields_length n xs xs-fit in
      let short : length xs ≤ 768 = omega arith in
      let own : address_numbers (listing_of xs rs) 0 n ≡ xs = own_numbers (listing_of xs rs) 0 n xs xs-fit (listing_has xs rs short) in
      let m = list_length (2 * k) rs rs-fit in
      let count : length rs / 2 ≡ k = omega arith in
      rw (e, own) (ap (λ (r : ℕ). row_of (n ∷ (xs ++ (r ∷ rs)))) count ∙ row_parts n xs k rs)

pub opens_passes : (file : List ℕ) → Bytes file → {L : Listing} {left : List ℕ} → listing_in file ≡ got L left → Passes L
opens_passes file ok e =
    let p = parts_read file ok e in
    rw p.listing_is at (listing_passes p.n p.numbers p.k p.list (omega (arith, p.n_within)) p.numbers_fit (omega (arith, p.some)) (omega (arith, p.few)) p.list_fit)

pub opens_file : (file : List ℕ) → Bytes file → {L : Listing} {left : List ℕ} → listing_in file ≡ got L left → file ≡ file_of L
opens_file file ok e =
    let p = parts_read file ok e in
    p.file_is
    ∙ sym (listing_file p.n p.numbers p.k p.list (omega (arith, p.n_within)) p.numbers_fit (omega (arith, p.some)) (omega (arith, p.few)) p.list_fit p.is_least)
    ∙ ap file_of p.listing_is
