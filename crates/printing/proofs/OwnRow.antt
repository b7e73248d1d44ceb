-- A spelling filled with a form's fields is read to its end by that spelling: each register and number that is printed is a whole word of the
-- line, and is read as what it stands for.
-- Assumes nothing.
use Prim.Native.Nat.{ℕ, suc, ◌+◌, ◌<◌}
use native.Mathlib.Omega.{arith}
use mathlib.Core.Path.{◌≡◌, refl, sym, ap, ◌∙◌, subst}
use mathlib.Core.Bool.{Bool, true, false, not, cond, ◌&&◌, ◌||◌, false≢true}
use mathlib.Core.List.{List, [], ◌∷◌, ◌++◌, append_assoc, append-nil}
use lib.Dec.{eqb}
use lib.ListN.{length, length-append}
use lib.Seq.{drop-append_seam, take-append_seam, get_or-append_seam}
use borrow.Author.Tests.{lt-ltb, eqb-true, eq-eqb, not-true}
use Rattle.slices.proofs.Bools.{by_test, both}
use Rattle.pages.specs.Text.{digits, decimal}
use Rattle.numbers.specs.declared.Fields.{Fields}
use Rattle.spelling.specs.declared.Operand.TheVariants.{Register, Number}
use Rattle.spelling.specs.declared.Places.{Places}
use Rattle.spelling.specs.Spellings.{spellings, pattern_of}
use Rattle.spelling.specs.Words.{in_word, word_length, digit_of, numeral_of, operand_of}
use Rattle.reading.specs.Reading.{is_place, empty_places, scanned, took_of, literal_of, byte_of, scan_of, read_of}
use Rattle.spelling.proofs.Rows.{all, all_at}
use Rattle.slices.proofs.Tables.{same_below}
use Rattle.printing.specs.Print.{register, shown_at, filled}
use Rattle.printing.proofs.ValidFields.{InRange}

-- what the places hold once a byte c of a spelling, and a whole spelling, is read
abbrev pub placed : Fields → ℕ → Places → Places
placed x c s =
    cond (eqb c 88) (record { d = x.1; a = s.a; b = s.b; imm = s.imm; addr = s.addr; from = s.from; size = s.size })
    (cond (eqb c 89) (record { d = s.d; a = x.2; b = s.b; imm = s.imm; addr = s.addr; from = s.from; size = s.size })
    (cond (eqb c 90) (record { d = s.d; a = s.a; b = x.4; imm = s.imm; addr = s.addr; from = s.from; size = s.size })
    (cond (eqb c 35) (record { d = s.d; a = s.a; b = s.b; imm = x.5; addr = s.addr; from = s.from; size = s.size })
    (cond (eqb c 64) (record { d = s.d; a = s.a; b = s.b; imm = s.imm; addr = x.5; from = 0; size = 0 }) s))))

abbrev pub places_by : List ℕ → Fields → Places → Places
places_by [] x s = s
places_by (c ∷ p) x s = places_by p x (placed x c s)

-- ---- words

-- no word goes on at the front of l
abbrev ended : List ℕ → Bool
ended [] = true
ended (c ∷ l) = not (in_word false c)

run_ended : (r : List ℕ) → ended r ≡ true → word_length false r ≡ 0
unfolding word_length
run_ended [] e = refl
run_ended (c ∷ r) e = rw (not-true (in_word false c) e)

run_word : (w r : List ℕ) → all (in_word false) w ≡ true → ended r ≡ true → word_length false (w ++ r) ≡ length w
unfolding word_length
run_word [] r e h = run_ended r h
run_word (c ∷ w) r e h = let u = both (in_word false c) _ e in rw u.0 (ap suc (run_word w r u.1 h))

-- a place of a spelling, where the word w stands behind pre, in front of r
word_taken : (pre w r : List ℕ) (c : ℕ) (s : Places) → all (in_word false) w ≡ true → ended r ≡ true → is_place c ≡ true
    → byte_of (pre ++ (w ++ r)) c (scanned (length pre) s) ≡ took_of (operand_of w) c (length pre + length w) (scanned (length pre) s)
unfolding byte_of
word_taken pre w r c s e h p = rw (p, drop-append_seam pre (w ++ r), run_word w r e h, take-append_seam w r)

-- a byte that stands for itself
self_taken : (pre r : List ℕ) (c : ℕ) (s : Places) → is_place c ≡ false → byte_of (pre ++ (c ∷ r)) c (scanned (length pre) s) ≡ scanned (length pre + 1) s
unfolding byte_of literal_of
self_taken pre r c s h =
    rw (h, lt-ltb (length pre) (length (pre ++ (c ∷ r))) (omega (arith, length-append pre (c ∷ r))), get_or-append_seam pre c r 0, eq-eqb c c refl)

register_read : (r : ℕ) → r < 4 → operand_of (register r) ≡ Register r
unfolding operand_of digit_of decimal digits
register_read r h = same_below (λ r. operand_of (register r)) Register 4 refl r h

register_word : (r : ℕ) → r < 4 → all (in_word false) (register r) ≡ true
unfolding decimal digits
register_word r h = same_below (λ r. all (in_word false) (register r)) (λ r. true) 4 refl r h

number_read : (n : ℕ) → n < 256 → operand_of (decimal n) ≡ Number n
unfolding operand_of digit_of numeral_of decimal digits
number_read n h = same_below (λ n. operand_of (decimal n)) Number 256 refl n h

number_word : (n : ℕ) → n < 256 → all (in_word false) (decimal n) ≡ true
unfolding decimal digits
number_word n h = same_below (λ n. all (in_word false) (decimal n)) (λ n. true) 256 refl n h

-- ---- spellings

-- after a place a spelling ends, or goes on with a byte that is in no word
abbrev followed : List ℕ → Bool
followed [] = true
followed (c ∷ p) = not (is_place c) && not (in_word false c)

abbrev proper : List ℕ → Bool
proper [] = true
proper (c ∷ p) = (not (is_place c) || followed p) && proper p

rows_proper : (k : ℕ) → proper (pattern_of k) ≡ true
unfolding pattern_of spellings
rows_proper k = all_at proper [] spellings refl refl k

module _ (x : Fields) (v : InRange x) (h : x.5 < 256) where
  -- what is printed for a byte of a spelling: a word, which is taken at that place, or the byte itself
  data Shown (c : ℕ) : Type 0 where
    as_word : is_place c ≡ true → all (in_word false) (shown_at x c) ≡ true
        → ((at i : ℕ) (s : Places) → took_of (operand_of (shown_at x c)) c i (scanned at s) ≡ scanned i (placed x c s)) → Shown c
    as_self : is_place c ≡ false → shown_at x c ≡ c ∷ [] → ((s : Places) → placed x c s ≡ s) → Shown c

  shown : (c : ℕ) → Shown c
  unfolding shown_at
  shown c =
      by_test (eqb c 88) (λ e. rw (eqb-true c 88 e) (as_word refl (register_word x.1 v.d) (λ at i s. rw (register_read x.1 v.d)))) (λ e.
      by_test (eqb c 89) (λ f. rw (eqb-true c 89 f) (as_word refl (register_word x.2 v.a) (λ at i s. rw (register_read x.2 v.a)))) (λ f.
      by_test (eqb c 90) (λ g. rw (eqb-true c 90 g) (as_word refl (register_word x.4 v.b) (λ at i s. rw (register_read x.4 v.b)))) (λ g.
      by_test (eqb c 35) (λ j. rw (eqb-true c 35 j) (as_word refl (number_word x.5 h) (λ at i s. rw (number_read x.5 h)))) (λ j.
      by_test (eqb c 64) (λ k. rw (eqb-true c 64 k) (as_word refl (number_word x.5 h) (λ at i s. rw (number_read x.5 h)))) (λ k.
      as_self (rw (e, f, g, j, k)) (rw (e, f, g, j, k)) (λ s. rw (e, f, g, j, k)))))))

  ended_filled : (p : List ℕ) → followed p ≡ true → ended (filled p x) ≡ true
  unfolding filled
  ended_filled [] e = refl
  ended_filled (c ∷ p) e = by (shown c)
    where
      by : Shown c → ended (shown_at x c ++ filled p x) ≡ true
      by (as_word q w t) = absurd (false≢true (rw q at (both (not (is_place c)) _ e).0))
      by (as_self q g t) = rw g (both (not (is_place c)) _ e).1

  byte_own : (pre p : List ℕ) (c : ℕ) (s : Places) → not (is_place c) || followed p ≡ true
      → byte_of (pre ++ (shown_at x c ++ filled p x)) c (scanned (length pre) s) ≡ scanned (length pre + length (shown_at x c)) (placed x c s)
  byte_own pre p c s e = by (shown c)
    where
      by : Shown c → byte_of (pre ++ (shown_at x c ++ filled p x)) c (scanned (length pre) s) ≡ scanned (length pre + length (shown_at x c)) (placed x c s)
      by (as_word q w t) = word_taken pre (shown_at x c) (filled p x) c s w (ended_filled p (rw q at e)) q ∙ t _ _ s
      by (as_self q g t) = rw (g, t s) (self_taken pre (filled p x) c s q)

  scan_own : (p pre : List ℕ) (s : Places) → proper p ≡ true
      → scan_of (pre ++ filled p x) p (scanned (length pre) s) ≡ scanned (length (pre ++ filled p x)) (places_by p x s)
  unfolding scan_of filled
  scan_own [] pre s e = rw (append-nil pre)
  scan_own (c ∷ p) pre s e =
      let u = both (not (is_place c) || followed p) _ e in
      let t = shown_at x c in
      let q : pre ++ (t ++ filled p x) ≡ (pre ++ t) ++ filled p x = sym (append_assoc pre t (filled p x)) in
      let l : length pre + length t ≡ length (pre ++ t) = sym (length-append pre t) in
      let rest : scan_of (pre ++ (t ++ filled p x)) p (scanned (length pre + length t) (placed x c s)) ≡ scanned (length (pre ++ (t ++ filled p x))) (places_by p x (placed x c s)) =
      subst (λ (k : List ℕ). scan_of k p (scanned (length pre + length t) (placed x c s)) ≡ scanned (length k) (places_by p x (placed x c s))) (sym q)
      (rw l (scan_own p (pre ++ t) (placed x c s) u.1)) in
      ap (scan_of (pre ++ (t ++ filled p x)) p) (byte_own pre p c s u.0) ∙ rest

  pub read_own : (k : ℕ) → read_of (filled (pattern_of k) x) 0 k ≡ scanned (length (filled (pattern_of k) x)) (places_by (pattern_of k) x empty_places)
  unfolding read_of
  read_own k = scan_own (pattern_of k) [] empty_places (rows_proper k)
