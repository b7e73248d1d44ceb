-- n is the least exactly where the last of n addresses is not blank, or there is none.
-- Assumes nothing.
use Prim.Native.Nat.{ℕ, zero, suc, ◌+◌, ◌*◌, ◌≤◌}
use native.Mathlib.Omega.{arith}
use mathlib.Core.Path.{◌≡◌, refl, sym, ◌∙◌}
use mathlib.Core.Bool.{Bool, true, false, not, ◌&&◌}
use mathlib.Core.List.{List, [], ◌∷◌}
use lib.ListN.{length, get_or, get_or-eq_default}
use lib.Dec.{eqb, leb}
use borrow.Author.Tests.{eq-eqb, ne_eqb, eqb-true, eqb-false, leb-true, leb-false}
use Rattle.slices.proofs.Bools.{by_test}
use Rattle.groups.proofs.Fields.{InFields}
use Rattle.rules.specs.Sheet.{Listing}
use Rattle.rules.proofs.Tests.{absurd_bool}
use Rattle.files.specs.File.{blank, least_of, address_fields, listing_of}
use Rattle.files.proofs.Least.{blank_after, used_least}
use Rattle.files.proofs.Numbers.{skip, fields_length, HasAt, listing_has}
use Rattle.checking.specs.internal.Judges.{last_blank}

abbrev blank_in : List ℕ → ℕ → Bool
blank_in xs a = eqb (get_or xs (3 * a) 0) 0 && (eqb (get_or xs (3 * a + 1) 0) 0 && eqb (get_or xs (3 * a + 2) 0) 0)

last_blank_in : (m : ℕ) (xs : List ℕ) (b : Bool) → length xs ≡ 3 * suc m → last_blank b xs ≡ blank_in xs m
last_blank_in zero (o ∷ g ∷ w ∷ []) b e = refl
last_blank_in (suc m) (o ∷ g ∷ w ∷ ys) b e =
    last_blank_in m ys (eqb o 0 && (eqb g 0 && eqb w 0)) (omega arith)
    ∙ sym (rw (skip o g w ys (3 * m) (3 * suc m) (omega arith), skip o g w ys (3 * m + 1) (3 * suc m + 1) (omega arith), skip o g w ys (3 * m + 2) (3 * suc m + 2) (omega arith)))
last_blank_in zero [] b e = absurd (omega arith)
last_blank_in zero (o ∷ []) b e = absurd (omega arith)
last_blank_in zero (o ∷ g ∷ []) b e = absurd (omega arith)
last_blank_in zero (o ∷ g ∷ w ∷ y ∷ ys) b e = absurd (omega arith)
last_blank_in (suc m) [] b e = absurd (omega arith)
last_blank_in (suc m) (o ∷ []) b e = absurd (omega arith)
last_blank_in (suc m) (o ∷ g ∷ []) b e = absurd (omega arith)

blank_is : (L : Listing) (a : ℕ) (xs : List ℕ) → HasAt L a xs a → blank L a ≡ blank_in xs a
blank_is L a xs h = rw (h.opcode, h.argument, h.word_is)

blank_past : (xs : List ℕ) (a : ℕ) → length xs ≤ 3 * a → blank_in xs a ≡ true
blank_past xs a l =
    let one : length xs ≤ 3 * a + 1 = omega arith in
    let two : length xs ≤ 3 * a + 2 = omega arith in
    rw (get_or-eq_default xs 0 l, get_or-eq_default xs 0 one, get_or-eq_default xs 0 two)

least_by : (n : ℕ) (xs rs : List ℕ) → length xs ≡ 3 * n → n ≤ 256 → eqb (least_of (listing_of xs rs)) n ≡ not (last_blank false xs)
least_by zero [] rs e l =
    let L = listing_of [] rs in
    let has = listing_has [] rs (omega arith) in
    let none_used : least_of L ≤ 0 = used_least L 256 0 (λ a h b. blank_is L a [] (has a a (omega arith))) in
    eq-eqb (least_of L) 0 (omega arith)
least_by zero (x ∷ xs) rs e l = absurd (omega arith)
least_by (suc m) xs rs e l =
    let L = listing_of xs rs in
    let has = listing_has xs rs (omega arith) in
    let within : least_of L ≤ suc m = used_least L 256 (suc m) (λ a h b. blank_is L a xs (has a a (omega arith)) ∙ blank_past xs a (omega arith)) in
    by_test (blank_in xs m)
    (λ t.
    let fewer : least_of L ≤ m = used_least L 256 m (λ a h b. blank_is L a xs (has a a (omega arith)) ∙ fewer_blank xs m a t h (omega arith)) in
    rw (last_blank_in m xs false e, t) (ne_eqb (least_of L) (suc m) (λ q. omega arith)))
    (λ t.
    let full : least_of L ≤ m → ⊥ = (λ h. not_both_bool (sym (blank_is L m xs (has m m (omega arith)) ∙ t) ∙ blank_after L 256 m h (omega arith))) in
    rw (last_blank_in m xs false e, t) (eq-eqb (least_of L) (suc m) (reached (least_of L) m within full)))
  where
    fewer_blank : (ys : List ℕ) (m a : ℕ) → blank_in ys m ≡ true → m ≤ a → length ys ≤ 3 * suc m → blank_in ys a ≡ true
    fewer_blank ys m a t h l =
        by_test (eqb a m)
        (λ q. let z = eqb-true a m q in rw z t)
        (λ q. let z = eqb-false a m q in blank_past ys a (omega arith))

    not_both_bool : false ≡ true → ⊥
    not_both_bool e = absurd_bool (sym e)

    reached : (k m : ℕ) → k ≤ suc m → (k ≤ m → ⊥) → k ≡ suc m
    reached k m a b = by_test (leb k m) (λ t. absurd (b (leb-true k m t))) (λ t. let h = leb-false k m t in omega arith)

pub least_is : (n : ℕ) (xs rs : List ℕ) → InFields (address_fields n) xs → n ≤ 256 → eqb (least_of (listing_of xs rs)) n ≡ not (last_blank false xs)
least_is n xs rs h l = least_by n xs rs (fields_length n xs h) l
