-- What is read at a byte of a spelling: which first bytes of a word may stand there, and how far the scan of a line then goes on.
-- Assumes nothing.
use Prim.Native.Nat.{ℕ, ◌+◌, ◌-◌, ◌<◌}
use native.Mathlib.Omega.{arith}
use native.Mathlib.Nat.{add-zero}
use mathlib.Core.Path.{◌≡◌, refl, sym, ◌∙◌}
use mathlib.Core.Bool.{Bool, true, false, cond, ◌&&◌, ◌||◌, false≢true}
use mathlib.Core.List.{List, [], ◌∷◌}
use lib.Dec.{eqb, leb, ltb}
use lib.ListN.{length, get_or, take, drop, length-drop}
use lib.Seq.{get_or-drop}
use borrow.Author.Tests.{lt-ltb, le-leb, eq-eqb, eqb-true, ltb-true, ltb-false}
use Rattle.slices.proofs.Bools.{by_test, both, neither}
use Rattle.spelling.specs.declared.Operand.{Operand}
use Rattle.spelling.specs.declared.Operand.TheVariants.{Register, Number, Name, Other}
use Rattle.reading.specs.declared.Scan.{Scan}
use Rattle.spelling.specs.Words.{figure, in_word, word_length, digit_of, numeral_of, operand_of, word_of}
use Rattle.reading.specs.Reading.{is_place, took_of, literal_of, byte_of, scan_of, fits}
use Rattle.reading.proofs.Seeks.{failed_misfits}

-- X, Y and Z
abbrev pub of_register : ℕ → Bool
of_register c = eqb c 88 || eqb c 89 || eqb c 90

-- the operands that a place takes
abbrev pub takes : Operand → ℕ → Bool
takes (Register r) c = of_register c
takes (Number v) c = eqb c 35 || eqb c 64
takes Name c = eqb c 64
takes Other c = false

-- the first bytes that may stand at a byte c of a spelling: 82 is "R"; of an address nothing is told
abbrev pub allows : ℕ → ℕ → Bool
allows c x = cond (of_register c) (eqb x 82) (cond (eqb c 35) (figure x) (eqb c 64 || eqb x c))

-- ---- what a word tells of its first byte

no_figure : (c : ℕ) → figure c ≡ false → ltb 9 (digit_of c) ≡ true
unfolding digit_of
no_figure c e =
    by_test (ltb c 48) (λ a. rw a) (λ a.
    by_test (leb c 57) (λ b. absurd (false≢true (sym e ∙ rw (le-leb 48 c (ltb-false c 48 a), b)))) (λ b.
    by_test (ltb c 65) (λ d. rw (a, b, d)) (λ d.
    by_test (leb c 70) (λ f. rw (a, b, d, f) (lt-ltb 9 (c - 55) (omega (arith, ltb-false c 65 d)))) (λ f.
    by_test (ltb c 97) (λ g. rw (a, b, d, f, g)) (λ g.
    by_test (leb c 102) (λ h. rw (a, b, d, f, g, h) (lt-ltb 9 (c - 87) (omega (arith, ltb-false c 97 g)))) (λ h. rw (a, b, d, f, g, h)))))))

-- no number begins with another byte than a figure
no_number : (m c b1 b2 b3 : ℕ) → figure c ≡ false → numeral_of m c b1 b2 b3 ≡ 256
unfolding numeral_of
no_number m c b1 b2 b3 e =
    let z : eqb c 48 ≡ false = by_test (eqb c 48) (λ k. absurd (false≢true (sym e ∙ rw (eqb-true c 48 k)))) (λ k. k) in
    rw (z, no_figure c e)
    (by_test (eqb m 1) (λ a. rw a) (λ a. by_test (eqb m 2) (λ b. rw (a, b)) (λ b. by_test (eqb m 3) (λ f. rw (a, b, f))
    (λ f. by_test (eqb m 4) (λ g. rw (a, b, f, g)) (λ g. rw (a, b, f, g))))))

number_begins : (m c b1 b2 b3 : ℕ) → ltb (numeral_of m c b1 b2 b3) 256 ≡ true → figure c ≡ true
number_begins m c b1 b2 b3 h = by_test (figure c) (λ e. e) (λ e. absurd (false≢true (rw (no_number m c b1 b2 b3 e) at h)))

number_allowed : (c x : ℕ) → figure x ≡ true → takes (Number 0) c ≡ true → allows c x ≡ true
number_allowed c x f e = by_test (eqb c 35) (λ a. rw (eqb-true c 35 a) f) (λ a. rw (eqb-true c 64 (rw a at e)))

-- a place takes a word only if it allows the word's first byte
word_begins : (w : List ℕ) (c : ℕ) → takes (operand_of w) c ≡ true → allows c (get_or w 0 0) ≡ true
unfolding operand_of
word_begins w c =
    by_test (eqb (length w) 2 && eqb (get_or w 0 0) 82 && ltb (digit_of (get_or w 1 0)) 4)
    (λ t. rw t (λ e. rw e (both (eqb (length w) 2) (eqb (get_or w 0 0) 82) (both _ _ t).0).1))
    (λ t. rw t (by_test (ltb (numeral_of (length w) (get_or w 0 0) (get_or w 1 0) (get_or w 2 0) (get_or w 3 0)) 256)
    (λ u. rw u (number_allowed c (get_or w 0 0) (number_begins (length w) (get_or w 0 0) _ _ _ u)))
    (λ u. rw u (by_test (eqb (length w) (word_length true w) && leb 1 (length w) && leb (length w) 12)
    (λ v. rw v (λ e. rw (eqb-true c 64 e)))
    (λ v. rw v (λ e. absurd (false≢true e)))))))

-- ---- what is read at a byte of a spelling

-- the byte c of a spelling is read at the front of t, what is left of a line
pub record Read (c : ℕ) (t : List ℕ) : Type 0 where
  pub some : 0 < length t
  pub front : allows c (get_or t 0 0) ≡ true
  pub word : is_place c ≡ true → takes (operand_of (word_of t)) c ≡ true

-- how many bytes are then read: a word, or one
abbrev pub size : ℕ → List ℕ → ℕ
size c t = cond (is_place c) (word_length false t) 1

word_read : (c : ℕ) (t : List ℕ) → takes (operand_of (word_of t)) c ≡ true → Read c t
unfolding operand_of numeral_of digit_of word_length
word_read c [] e = absurd (false≢true e)
word_read c (x ∷ t) e =
    by_test (in_word false x)
    (λ i. record { some = omega arith; front = word_begins (x ∷ take (word_length false t) t) c (rw i at e); word = λ p. e })
    (λ i. absurd (false≢true (rw i at e)))

byte_read : (c : ℕ) (t : List ℕ) → is_place c ≡ false → 0 < length t → get_or t 0 0 ≡ c → Read c t
byte_read c t h s e =
    let u = neither (of_register c || eqb c 35) (eqb c 64) h in
    let v = neither (of_register c) (eqb c 35) u.0 in
    record { some = s; front = rw (v.0, v.1, u.1, e) (eq-eqb c c refl); word = λ p. absurd (false≢true (sym h ∙ p)) }

-- a place that takes an operand goes on behind its word
took_ok : (o : Operand) (c i : ℕ) (s : Scan) → (took_of o c i s).ok ≡ true → (takes o c ≡ true) × ((took_of o c i s).at ≡ i)
took_ok (Register r) c i s e =
    by_test (eqb c 88) (λ a. (rw a, rw a)) (λ a. by_test (eqb c 89) (λ b. (rw (a, b), rw (a, b))) (λ b. by_test (eqb c 90) (λ d. (rw (a, b, d), rw (a, b, d)))
    (λ d. absurd (false≢true (rw (a, b, d) at e)))))
took_ok (Number v) c i s e =
    by_test (eqb c 35) (λ a. (rw a, rw a)) (λ a. by_test (eqb c 64) (λ b. (rw (a, b), rw (a, b))) (λ b. absurd (false≢true (rw (a, b) at e))))
took_ok Name c i s e = by_test (eqb c 64) (λ a. (a, rw a)) (λ a. absurd (false≢true (rw a at e)))
took_ok Other c i s e = absurd (false≢true e)

live : (t : Bool) (a s : Scan) → s.ok ≡ t → (cond t a s).ok ≡ true → cond t a s ≡ a
live true a s q e = refl
live false a s q e = absurd (false≢true (sym q ∙ e))

module _ (l : List ℕ) where
  literal_ok : (c : ℕ) (s : Scan) → is_place c ≡ false → (literal_of l c s).ok ≡ true → Read c (drop s.at l) × ((literal_of l c s).at ≡ s.at + 1)
  unfolding literal_of
  literal_ok c s h e =
      by_test (ltb s.at (length l) && eqb (get_or l s.at 0) c)
      (λ a.
      let b = both (ltb s.at (length l)) _ a in
      let i = ltb-true s.at (length l) b.0 in
      (byte_read c (drop s.at l) h (rw (length-drop s.at l) (omega arith)) (rw (get_or-drop s.at l 0 0, add-zero) (eqb-true _ c b.1)), rw a))
      (λ a. absurd (false≢true (rw a at e)))

  -- a scan that goes on has not failed before
  byte_live : (c : ℕ) (s : Scan) → (byte_of l c s).ok ≡ true
      → byte_of l c s ≡ cond (is_place c) (took_of (operand_of (word_of (drop s.at l))) c (s.at + word_length false (drop s.at l)) s) (literal_of l c s)
  unfolding byte_of
  byte_live c s e = live s.ok _ s refl e

  -- it has read the byte, and stands behind it
  byte_ok : (c : ℕ) (s : Scan) → (byte_of l c s).ok ≡ true → Read c (drop s.at l) × ((byte_of l c s).at ≡ s.at + size c (drop s.at l))
  byte_ok c s e =
      let b = byte_live c s e in
      by_test (is_place c)
      (λ h.
      let t = took_ok (operand_of (word_of (drop s.at l))) c (s.at + word_length false (drop s.at l)) s (rw (b, h) at e) in
      (word_read c (drop s.at l) t.0, rw (b, h) t.1))
      (λ h. let t = literal_ok c s h (rw (b, h) at e) in (t.0, rw (b, h) t.1))

  -- a line that fits was read whole
  fit_live : (p : List ℕ) (s : Scan) → fits l (scan_of l p s) ≡ true → s.ok ≡ true
  fit_live p s f = by_test s.ok (λ e. e) (λ e. absurd (false≢true (sym (failed_misfits l p s e) ∙ f)))

  pub fit_read : (c : ℕ) (p : List ℕ) (s : Scan) → fits l (scan_of l (c ∷ p) s) ≡ true
      → Read c (drop s.at l) × ((byte_of l c s).at ≡ s.at + size c (drop s.at l))
  unfolding scan_of
  fit_read c p s f = byte_ok c s (fit_live p (byte_of l c s) f)

  -- a spelling that goes on needs a byte more of the line
  pub fit_inside : (c : ℕ) (p : List ℕ) (s : Scan) → fits l (scan_of l (c ∷ p) s) ≡ true → s.at < length l
  fit_inside c p s f = omega (arith, (fit_read c p s f).0.some, length-drop s.at l)

  pub fit_ended : (s : Scan) → fits l (scan_of l [] s) ≡ true → s.at ≡ length l
  unfolding scan_of
  fit_ended s f = eqb-true s.at (length l) (both s.ok _ f).1
