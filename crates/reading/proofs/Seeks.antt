-- The search for the row of a line: a row whose first three bytes are not the line's does not fit it, so it need not be tried. No spelling has a
-- place among its first three bytes.
-- Assumes nothing.
use Prim.Native.Nat.{ℕ, zero, suc, ◌+◌, ◌-◌, ◌≤◌, ◌<◌}
use native.Mathlib.Omega.{arith}
use native.Mathlib.Nat.{sub-eq-zero_of_le}
use mathlib.Core.Path.{◌≡◌, refl, sym, ap, ap₂, ◌∙◌}
use mathlib.Core.Bool.{Bool, true, false, not, cond, ◌&&◌}
use mathlib.Core.List.{List, [], ◌∷◌}
use lib.Dec.{eqb, ltb}
use lib.ListN.{length, get_or}
use borrow.Author.Tests.{eq-eqb, ltb-true, not-true, eqb-true}
use Rattle.slices.proofs.Bools.{by_test, both}
use Rattle.slices.proofs.Below as below
use Rattle.std.specs.Prelude.{Some, None}
use Rattle.reading.specs.declared.Scan.{Scan}
use Rattle.spelling.specs.Spellings.{spellings, pattern_of}
use Rattle.reading.specs.Reading.{is_place, scanned, empty_places, literal_of, byte_of, scan_of, read_of, fits, matched_of}
use Rattle.reading.specs.internal.Rows.{begins_of}
use Rattle.reading.proofs.Scans.{scan_failed}

-- a scan that has failed does not fit
pub failed_misfits : (l p : List ℕ) (s : Scan) → s.ok ≡ false → fits l (scan_of l p s) ≡ false
failed_misfits l p s e = rw (scan_failed l p s e, e)

-- the byte at a place of a line, and whether there is one
abbrev same_byte : List ℕ → ℕ → ℕ → Bool
same_byte l i c = ltb i (length l) && eqb (get_or l i 0) c

literal_step : (l : List ℕ) (c i : ℕ) (t : Bool) → is_place c ≡ false → same_byte l i c ≡ t
    → byte_of l c (scanned i empty_places) ≡ cond t (scanned (i + 1) empty_places) (record { ok = false; at = i; places = empty_places })
unfolding byte_of literal_of
literal_step l c i t h e = rw (h, e)

-- a spelling whose first byte is none of the line's fails
first_differs : (l p : List ℕ) (c i : ℕ) → is_place c ≡ false → same_byte l i c ≡ false → fits l (scan_of l (c ∷ p) (scanned i empty_places)) ≡ false
unfolding scan_of
first_differs l p c i h e = ap (λ (s : Scan). fits l (scan_of l p s)) (literal_step l c i false h e) ∙ failed_misfits l p _ refl

first_same : (l p : List ℕ) (c i : ℕ) → is_place c ≡ false → same_byte l i c ≡ true
    → scan_of l (c ∷ p) (scanned i empty_places) ≡ scan_of l p (scanned (i + 1) empty_places)
unfolding scan_of
first_same l p c i h e = ap (scan_of l p) (literal_step l c i true h e)

-- the first three bytes of a spelling are there, and stand for themselves
abbrev fixed : List ℕ → Bool
fixed [] = false
fixed (c ∷ []) = false
fixed (c ∷ (d ∷ [])) = false
fixed (c ∷ (d ∷ (e ∷ p))) = not (is_place c) && not (is_place d) && not (is_place e)

rows_fixed : (k : ℕ) → k < 90 → fixed (pattern_of k) ≡ true
unfolding pattern_of spellings
rows_fixed k h = below.at (λ k. fixed (pattern_of k)) 90 refl k h

no : false ≡ true → ⊥
no k = let q : ◌≡◌ {A = ℕ} 0 1 = cc in omega arith

-- bytes of the line, and those of a spelling
abbrev three_same : List ℕ → ℕ → ℕ → ℕ → ℕ → Bool
three_same l i c d e = same_byte l i c && same_byte l (i + 1) d && same_byte l (i + 1 + 1) e

three_differ : (l p : List ℕ) (i : ℕ) → fixed p ≡ true
    → three_same l i (get_or p 0 46) (get_or p 1 46) (get_or p 2 46) ≡ false → fits l (scan_of l p (scanned i empty_places)) ≡ false
three_differ l [] i f h = absurd (no f)
three_differ l (c ∷ []) i f h = absurd (no f)
three_differ l (c ∷ (d ∷ [])) i f h = absurd (no f)
three_differ l (c ∷ (d ∷ (e ∷ p))) i f h =
    let ab = both (not (is_place c) && not (is_place d)) (not (is_place e)) f in
    let a = both (not (is_place c)) (not (is_place d)) ab.0 in
    by_test (same_byte l i c)
    (λ x. ap (fits l) (first_same l (d ∷ (e ∷ p)) c i (not-true _ a.0) x) ∙ by_test (same_byte l (i + 1) d)
    (λ y. ap (fits l) (first_same l (e ∷ p) d (i + 1) (not-true _ a.1) y)
    ∙ first_differs l p e (i + 1 + 1) (not-true _ ab.1) (rw (x, y) at h))
    (λ y. first_differs l (e ∷ p) d (i + 1) (not-true _ a.1) y))
    (λ x. first_differs l (d ∷ (e ∷ p)) c i (not-true _ a.0) x)

-- a row that doesn't begin with the line's bytes x, y and z
three_false : (l : List ℕ) (i x y z c d e : ℕ) → x ≡ get_or l i 0 → y ≡ get_or l (i + 1) 0 → z ≡ get_or l (i + 2) 0
    → eqb c x && eqb d y && eqb e z ≡ false → three_same l i c d e ≡ false
three_false l i x y z c d e p q r h =
    by_test (three_same l i c d e)
    (λ t.
    let u = both (same_byte l i c && same_byte l (i + 1) d) (same_byte l (i + 1 + 1) e) t in
    let v = both (same_byte l i c) (same_byte l (i + 1) d) u.0 in
    let two : i + 1 + 1 ≡ i + 2 = omega arith in
    let a : x ≡ c = p ∙ eqb-true _ _ (both (ltb i (length l)) _ v.0).1 in
    let b : y ≡ d = q ∙ eqb-true _ _ (both (ltb (i + 1) (length l)) _ v.1).1 in
    let g : z ≡ e = r ∙ ap (λ (j : ℕ). get_or l j 0) (sym two) ∙ eqb-true _ _ (both (ltb (i + 1 + 1) (length l)) _ u.1).1 in
    absurd (no (sym h ∙ rw (eq-eqb c x (sym a), eq-eqb d y (sym b), eq-eqb e z (sym g)))))
    (λ t. t)

row_misfits : (l : List ℕ) (i : ℕ) {x y z : ℕ} → x ≡ get_or l i 0 → y ≡ get_or l (i + 1) 0 → z ≡ get_or l (i + 2) 0
    → (k : ℕ) → k < 90 → begins_of k x y z ≡ false → fits l (read_of l i k) ≡ false
unfolding read_of
row_misfits l i {x} {y} {z} p q r k h e =
    three_differ l (pattern_of k) i (rows_fixed k h) (three_false l i x y z (get_or (pattern_of k) 0 46) (get_or (pattern_of k) 1 46) (get_or (pattern_of k) 2 46) p q r e)

-- a line of less than three bytes
few_differ : (l : List ℕ) (i c d e : ℕ) → length l < i + 3 → three_same l i c d e ≡ false
few_differ l i c d e h =
    by_test (three_same l i c d e)
    (λ t.
    let u = both (same_byte l i c && same_byte l (i + 1) d) (same_byte l (i + 1 + 1) e) t in
    let v = ltb-true (i + 1 + 1) (length l) (both (ltb (i + 1 + 1) (length l)) _ u.1).0 in
    absurd (omega arith))
    (λ t. t)

few_misfit : (l : List ℕ) (i k : ℕ) → length l < i + 3 → k < 90 → fits l (read_of l i k) ≡ false
unfolding read_of
few_misfit l i k h g = three_differ l (pattern_of k) i (rows_fixed k g) (few_differ l i (get_or (pattern_of k) 0 46) (get_or (pattern_of k) 1 46) (get_or (pattern_of k) 2 46) h)

-- rows that do not fit are passed over
pass_over : (l : List ℕ) (i k m d : ℕ) → ((j : ℕ) → k ≤ j → j < k + d → fits l (read_of l i j) ≡ false) → matched_of l i k (d + m) ≡ matched_of l i (k + d) m
unfolding matched_of
pass_over l i k m zero f = ap₂ (matched_of l i) (let e : k ≡ k + 0 = omega arith in e) (let e : 0 + m ≡ m = omega arith in e)
pass_over l i k m (suc d) f =
    let e : k + suc d ≡ suc k + d = omega arith in
    let n : suc d + m ≡ suc (d + m) = omega arith in
    rw (n, f k (omega arith) (omega arith), e) (pass_over l i (suc k) m d (λ j a b. f j (omega arith) (omega arith)))

pub few_fit_none : (l : List ℕ) (i : ℕ) → length l < i + 3 → None ≡ matched_of l i 0 90
few_fit_none l i h = sym (pass_over l i 0 0 90 (λ j a b. few_misfit l i j h b) ∙ (unfold matched_of in refl))

-- the search has passed over the rows before k
pub record Seeking (l : List ℕ) (i k : ℕ) : Type 0 where
  pub within : k ≤ 90
  pub left : matched_of l i 0 90 ≡ matched_of l i k (90 - k)

pub skip_to : (l : List ℕ) (i k r : ℕ) → k ≤ r → r ≤ 90 → ((j : ℕ) → k ≤ j → j < r → fits l (read_of l i j) ≡ false)
    → matched_of l i k (90 - k) ≡ matched_of l i r (90 - r)
skip_to l i k r h g f =
    let e : k + (r - k) ≡ r = omega arith in
    let s : 90 - k ≡ (r - k) + (90 - r) = omega arith in
    ap (matched_of l i k) s ∙ pass_over l i k (90 - r) (r - k) (λ j a b. f j a (omega arith)) ∙ ap (λ (j : ℕ). matched_of l i j (90 - r)) e

pub seek_starts : {l : List ℕ} {i : ℕ} → Seeking l i 0
seek_starts = record { within = omega arith; left = refl }

seek_past : {l : List ℕ} {i k : ℕ} → Seeking l i k → k < 90 → fits l (read_of l i k) ≡ false → Seeking l i (k + 1)
seek_past {l} {i} {k} w h f =
    record {
      within = omega arith;
      left = w.left ∙ skip_to l i k (k + 1) (omega arith) (omega arith) (λ j a b. let j=k : j ≡ k = omega arith in rw j=k f);
    }

-- a row that begins with other bytes, and one that was tried
pub seek_other : (l : List ℕ) (i : ℕ) {x y z k : ℕ} → x ≡ get_or l i 0 → y ≡ get_or l (i + 1) 0 → z ≡ get_or l (i + 2) 0
    → Seeking l i k → k < 90 → begins_of k x y z ≡ false → Seeking l i (k + 1)
seek_other l i {k = k} p q r w h e = seek_past w h (row_misfits l i p q r k h e)

pub seek_tried : {l : List ℕ} {i k : ℕ} {s : Scan} → Seeking l i k → k < 90 → s ≡ read_of l i k → fits l s ≡ false → Seeking l i (k + 1)
seek_tried w h e f = seek_past w h (rw (← e) f)

pub seek_hits : {l : List ℕ} {i k : ℕ} {s : Scan} → Seeking l i k → k < 90 → s ≡ read_of l i k → fits l s ≡ true
    → Some (record { row = k; places = s.places }) ≡ matched_of l i 0 90
seek_hits {l} {i} {k} {s} w h e f = sym (w.left ∙ hit (90 - k) (90 - (k + 1)) (omega arith))
  where
    hit : (n m : ℕ) → n ≡ suc m → matched_of l i k n ≡ Some (record { row = k; places = s.places })
    hit n m q = unfold matched_of in rw (q, ← e, f)

pub seek_ends : {l : List ℕ} {i k : ℕ} → Seeking l i k → 90 ≤ k → None ≡ matched_of l i 0 90
seek_ends w h = sym (w.left ∙ (rw (sub-eq-zero_of_le h) (unfold matched_of in refl)))
