-- The file of a listing that passes 1 to 3 opens to it.
-- Assumes nothing.
use Prim.Native.Nat.{ℕ, ◌+◌, ◌*◌, ◌/◌, ◌%◌, ◌≤◌, ◌<◌}
use native.Mathlib.Omega.{arith}
use mathlib.Core.Path.{◌≡◌, refl, sym, ap, ◌∙◌}
use mathlib.Core.Bool.{true, ◌&&◌}
use mathlib.Core.List.{List, []}
use lib.ListN.{length, get_or, get_or-eq_default}
use lib.Dec.{eqb, ltb}
use borrow.Author.Tests.{eqb-true, eq-eqb, ltb-true, ltb-false}
use Rattle.slices.specs.Lists.{Bytes}
use Rattle.slices.proofs.Bools.{by_test, both}
use Rattle.groups.specs.Fields.{got}
use Rattle.rules.specs.Sheet.{Listing, listing, word, routines}
use Rattle.files.specs.File.{blank, least_of, address_numbers, file_of, listing_of, at_last, listing_in}
use Rattle.files.specs.Promise.{Passes}
use Rattle.files.proofs.Columns.{column_own, sheet_own}
use Rattle.files.proofs.Least.{used_within, blank_after}
use Rattle.files.proofs.Numbers.{HasAt, has_own, numbers_length, numbers_fit, list_fit}
use Rattle.files.proofs.Parts.{in_parts, row_parts, read_parts}
use Rattle.files.proofs.Sizes.{good_sizes}

-- a blank address has what stands past the end of the numbers
blank_has : (L : Listing) (a : ℕ) (xs : List ℕ) → blank L a ≡ true → length xs ≤ 3 * a → HasAt L a xs a
blank_has L a xs b l =
    let t = both (eqb (get_or L.program.opcodes a 0) 0) (eqb (get_or L.program.arguments a 0) 0 && eqb (word L a) 0) b in
    let u = both (eqb (get_or L.program.arguments a 0) 0) (eqb (word L a) 0) t.1 in
    let one : length xs ≤ 3 * a + 1 = omega arith in
    let two : length xs ≤ 3 * a + 2 = omega arith in
    record {
      opcode = eqb-true _ 0 t.0 ∙ sym (get_or-eq_default xs 0 l);
      argument = eqb-true _ 0 u.0 ∙ sym (get_or-eq_default xs 0 one);
      word_is = eqb-true _ 0 u.1 ∙ sym (get_or-eq_default xs 0 two);
    }

all_has : (L : Listing) (a : ℕ) → a < 256 → HasAt L a (address_numbers L 0 (least_of L)) a
all_has L a h =
    by_test (ltb a (least_of L))
    (λ t. has_own L 0 (least_of L) a a (ltb-true a (least_of L) t) (omega arith))
    (λ t.
    let l = ltb-false a (least_of L) t in
    let e = numbers_length L 0 (least_of L) in
    blank_has L a (address_numbers L 0 (least_of L)) (blank_after L 256 a l h) (omega arith))

listing_same : {o g s l : List ℕ} (L : Listing) → o ≡ L.program.opcodes → g ≡ L.program.arguments → s ≡ L.sheet → l ≡ L.list → listing o g s l ≡ L
listing_same L a b c d = rw (a, b, c, d)

-- the two bytes of a sheet word
low_half : (L : Listing) (a w : ℕ) → Bytes L.sheet → word L a ≡ w → w % 256 ≡ get_or L.sheet (2 * a) 0
unfolding word
low_half L a w ok e = let h = ok (2 * a) in omega arith

high_half : (L : Listing) (a w : ℕ) → Bytes L.sheet → word L a ≡ w → w / 256 ≡ get_or L.sheet (2 * a + 1) 0
unfolding word
high_half L a w ok e = let h = ok (2 * a) in omega arith

own_listing : (L : Listing) → Passes L → listing_of (address_numbers L 0 (least_of L)) L.list ≡ L
unfolding listing_of
own_listing L p =
    let z = good_sizes L p.sizes in
    listing_same L
    (column_own _ 256 L.program.opcodes z.opcodes (λ a h. sym (all_has L a h).opcode))
    (column_own _ 256 L.program.arguments z.arguments (λ a h. sym (all_has L a h).argument))
    (sheet_own _ 256 L.sheet z.sheet (λ a h. low_half L a _ p.sheet_bytes (all_has L a h).word_is) (λ a h. high_half L a _ p.sheet_bytes (all_has L a h).word_is))
    refl

pub file_opens : (L : Listing) → Passes L → listing_in (file_of L) ≡ got L []
unfolding file_of at_last
file_opens L p =
    let z = good_sizes L p.sizes in
    let n = least_of L in
    let xs = address_numbers L 0 n in
    ap listing_in (row_parts n xs (routines L) L.list)
    ∙ read_parts n xs (routines L) L.list [] (omega (arith, used_within L 256)) (numbers_fit L 0 n p.opcode_bytes p.argument_bytes p.sheet_bytes) (omega (arith, z.some)) (omega (arith, z.few))
    (list_fit (2 * routines L) L.list z.list p.list_bytes)
    ∙ ap (λ (M : Listing). at_last (in_parts n xs (routines L) L.list []) n M []) (own_listing L p)
    ∙ rw (eq-eqb (least_of L) (least_of L) refl)
