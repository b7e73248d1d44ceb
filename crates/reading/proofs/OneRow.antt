-- No line fits two rows. Two spellings, read in lock step, stand at the same place of a line as long as both take words or both take single
-- bytes; sooner or later one asks for what the other excludes, or one ends before the other.
-- Assumes nothing.
use Prim.Native.Nat.{ℕ, ◌≤◌, ◌<◌}
use native.Mathlib.Omega.{arith}
use mathlib.Core.Path.{◌≡◌, refl, sym, ◌∙◌}
use mathlib.Core.Bool.{Bool, true, false, not, cond, ◌&&◌, ◌||◌, beq, false≢true}
use mathlib.Core.List.{List, [], ◌∷◌}
use lib.Dec.{eqb, ltb}
use lib.ListN.{get_or, drop}
use borrow.Author.Tests.{eqb-true, ltb-true, ltb-false, not-true}
use Rattle.slices.proofs.Bools.{by_test, both, neither}
use Rattle.slices.proofs.Below as below
use Rattle.std.specs.Prelude.{Some}
use Rattle.spelling.specs.declared.Operand.{Operand}
use Rattle.spelling.specs.declared.Operand.TheVariants.{Register, Number, Name, Other}
use Rattle.reading.specs.declared.Scan.{Scan}
use Rattle.spelling.specs.Spellings.{spellings, pattern_of}
use Rattle.spelling.specs.Words.{operand_of, word_of}
use Rattle.reading.specs.Reading.{is_place, byte_of, scan_of, read_of, fits, matched_of}
use Rattle.reading.proofs.Seeks.{skip_to, seek_hits}
use Rattle.reading.proofs.Fronts.{of_register, takes, allows, Read, fit_read, fit_inside, fit_ended}

-- the only first byte that may stand at c, where c is neither # nor @
abbrev only : ℕ → ℕ
only c = cond (of_register c) 82 c

-- c asks for one first byte, which e excludes; or for a register, where e asks for an address
abbrev excludes : ℕ → ℕ → Bool
excludes c e = not (eqb c 35 || eqb c 64) && not (allows e (only c)) || (of_register c && eqb e 64)

-- no line fits both spellings
abbrev apart : List ℕ → List ℕ → Bool
apart [] [] = false
apart [] (e ∷ q) = true
apart (c ∷ p) [] = true
apart (c ∷ p) (e ∷ q) = excludes c e || excludes e c || (beq (is_place c) (is_place e) && apart p q)

-- an operand that a register's place takes is taken by no address's
one_operand : (o : Operand) (c : ℕ) → of_register c ≡ true → takes o c ≡ true → takes o 64 ≡ true → ⊥
one_operand (Register r) c h a b = false≢true b
one_operand (Number v) c h a b =
    by_test (eqb c 35) (λ d. false≢true (rw (eqb-true c 35 d) at h)) (λ d. false≢true (rw (eqb-true c 64 (rw d at a)) at h))
one_operand Name c h a b = false≢true (rw (eqb-true c 64 a) at h)
one_operand Other c h a b = false≢true a

only_front : (c x : ℕ) → eqb c 35 || eqb c 64 ≡ false → allows c x ≡ true → x ≡ only c
only_front c x n e =
    let u = neither (eqb c 35) (eqb c 64) n in
    by_test (of_register c) (λ h. rw h (eqb-true x 82 (rw h at e))) (λ h. rw h (eqb-true x c (rw (h, u.0, u.1) at e)))

never_both : (c e : ℕ) (t : List ℕ) → excludes c e ≡ true → Read c t → Read e t → ⊥
never_both c e t x r s =
    by_test (not (eqb c 35 || eqb c 64) && not (allows e (only c)))
    (λ k.
    let u = both (not (eqb c 35 || eqb c 64)) _ k in
    let f = only_front c (get_or t 0 0) (not-true _ u.0) r.front in
    false≢true (sym (not-true (allows e (only c)) u.1) ∙ (rw f at s.front)))
    (λ k.
    let u = both (of_register c) (eqb e 64) (rw k at x) in
    let g = eqb-true e 64 u.1 in
    one_operand (operand_of (word_of t)) c u.0 (r.word (rw u.0)) (rw g at (s.word (rw g))))

same : (a b : Bool) → beq a b ≡ true → a ≡ b
same true true e = refl
same true false e = sym e
same false true e = e
same false false e = refl

-- two scans of a line from one place by spellings that are apart don't both fit
one_fits : (l p q : List ℕ) (s t : Scan) → s.at ≡ t.at → apart p q ≡ true → fits l (scan_of l p s) ≡ true → fits l (scan_of l q t) ≡ true → ⊥
unfolding scan_of
one_fits l [] [] s t i a f g = false≢true a
one_fits l [] (e ∷ q) s t i a f g = omega (arith, fit_ended l s f, fit_inside l e q t g)
one_fits l (c ∷ p) [] s t i a f g = omega (arith, fit_inside l c p s f, fit_ended l t g)
one_fits l (c ∷ p) (e ∷ q) s t i a f g =
    let r = fit_read l c p s f in
    let u = fit_read l e q t g in
    let v : Read e (drop s.at l) = rw i u.0 in
    by_test (excludes c e) (λ x. never_both c e (drop s.at l) x r.0 v) (λ x.
    by_test (excludes e c) (λ y. never_both e c (drop s.at l) y v r.0) (λ y.
    let b = both (beq (is_place c) (is_place e)) (apart p q) (rw (x, y) at a) in
    let j : (byte_of l c s).at ≡ (byte_of l e t).at = r.1 ∙ rw (i, same (is_place c) (is_place e) b.0) (sym u.1) in
    one_fits l p q (byte_of l c s) (byte_of l e t) j b.1 f g))

-- a row is apart from all before it, by one test of all pairs
abbrev apart_before : ℕ → Bool
apart_before k = below.all_below (λ j. apart (pattern_of k) (pattern_of j)) k

rows_apart : (k : ℕ) → k < 90 → (j : ℕ) → j < k → apart (pattern_of k) (pattern_of j) ≡ true
unfolding pattern_of spellings
rows_apart k h j g = below.at (λ j. apart (pattern_of k) (pattern_of j)) k (below.at apart_before 90 refl k h) j g

pub one_row : (l : List ℕ) (i j k : ℕ) → j < 90 → k < 90 → fits l (read_of l i j) ≡ true → fits l (read_of l i k) ≡ true → j ≡ k
unfolding read_of
one_row l i j k h g e f =
    by_test (ltb j k) (λ a. absurd (one_fits l (pattern_of k) (pattern_of j) _ _ refl (rows_apart k g j (ltb-true j k a)) f e)) (λ a.
    by_test (ltb k j) (λ b. absurd (one_fits l (pattern_of j) (pattern_of k) _ _ refl (rows_apart j h k (ltb-true k j b)) e f)) (λ b.
    omega (arith, ltb-false j k a, ltb-false k j b)))

-- so the row that a line fits is the row that is found
pub row_found : (l : List ℕ) (i k : ℕ) → k < 90 → fits l (read_of l i k) ≡ true → matched_of l i 0 90 ≡ Some (record { row = k; places = (read_of l i k).places })
row_found l i k h f = sym (seek_hits (record { within = omega arith; left = skip_to l i 0 k (omega arith) (omega arith) others }) h refl f)
  where
    others : (j : ℕ) → 0 ≤ j → j < k → fits l (read_of l i j) ≡ false
    others j a b = by_test (fits l (read_of l i j)) (λ e. let q = one_row l i j k (omega arith) h e f in absurd (omega arith)) (λ e. e)
