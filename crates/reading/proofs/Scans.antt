-- The loop that reads a line by a spelling.
-- Assumes nothing.
use Prim.Native.Nat.{ℕ, ◌+◌, ◌≤◌, ◌<◌}
use native.Mathlib.Omega.{arith}
use native.Mathlib.Numerals.{add-one}
use mathlib.Core.Path.{◌≡◌, refl, sym, ◌∙◌}
use mathlib.Core.Bool.{Bool, true, false, cond, ◌&&◌}
use mathlib.Core.List.{List, [], ◌∷◌}
use lib.Dec.{eqb, ltb}
use lib.ListN.{length, get_or, drop, drop_of_length-le, length-drop}
use lib.Seq.{drop-cons}
use borrow.Author.Tests.{ltb-true}
use Rattle.spelling.specs.declared.Operand.{Operand}
use Rattle.spelling.specs.declared.Operand.TheVariants.{Register, Number, Name, Other}
use Rattle.reading.specs.declared.Scan.{Scan}
use Rattle.spelling.specs.Words.{in_word, word_length, operand_of, word_of}
use Rattle.spelling.specs.Spellings.{pattern_of}
use Rattle.reading.specs.Reading.{is_place, took_of, literal_of, byte_of, scan_of}
use Rattle.slices.proofs.Bools.{by_test, both}
use Rattle.spelling.proofs.Rows.{short, no_dots, dot_ends, not_dot}

run_short : (only : Bool) (l : List ℕ) → word_length only l ≤ length l
unfolding word_length
run_short only [] = omega arith
run_short only (c ∷ l) =
    by_test (in_word only c) (λ e. let h : word_length only l ≤ length l = run_short only l in rw e (omega arith)) (λ e. rw e (omega arith))

pub run_fits : (only : Bool) (l : List ℕ) (i : ℕ) → i ≤ length l → i + word_length only (drop i l) ≤ length l
run_fits only l i h = omega (arith, run_short only (drop i l), length-drop i l)

cond_at : (t : Bool) (a b : Scan) (m : ℕ) → a.at ≤ m → b.at ≤ m → (cond t a b).at ≤ m
cond_at true a b m h k = h
cond_at false a b m h k = k

took_within : (o : Operand) (c i : ℕ) (w : Scan) (m : ℕ) → i ≤ m → w.at ≤ m → (took_of o c i w).at ≤ m
took_within (Register r) c i w m h k =
    cond_at (eqb c 88) _ _ m h (cond_at (eqb c 89) _ _ m h (cond_at (eqb c 90) _ _ m h k))
took_within (Number v) c i w m h k = cond_at (eqb c 35) _ _ m h (cond_at (eqb c 64) _ _ m h k)
took_within Name c i w m h k = cond_at (eqb c 64) _ _ m h k
took_within Other c i w m h k = k

literal_within : (l : List ℕ) (c : ℕ) (w : Scan) → w.at ≤ length l → (literal_of l c w).at ≤ length l
unfolding literal_of
literal_within l c w h =
    by_test (ltb w.at (length l) && eqb (get_or l w.at 0) c)
    (λ e. let k : w.at < length l = ltb-true _ _ (both (ltb w.at (length l)) _ e).0 in rw e (omega arith))
    (λ e. rw e h)

pub turn_within : (l : List ℕ) (c : ℕ) (w : Scan) → w.at ≤ length l → (byte_of l c w).at ≤ length l
unfolding byte_of
turn_within l c w h =
    cond_at w.ok _ _ (length l)
    (cond_at (is_place c) _ _ (length l) (took_within (operand_of (word_of (drop w.at l))) c _ w (length l) (run_fits false l w.at h) h) (literal_within l c w h))
    h

-- a walk that has failed stays as it is
pub scan_failed : (l p : List ℕ) (w : Scan) → w.ok ≡ false → scan_of l p w ≡ w
unfolding scan_of byte_of
scan_failed l [] w e = refl
scan_failed l (c ∷ p) w e = let q : byte_of l c w ≡ w = rw e in rw q (scan_failed l p w e)

pub record Scanning (l : List ℕ) (k : ℕ) (w₀ : Scan) (j : ℕ) (w : Scan) : Type 0 where
  pub within : w.at ≤ length l
  pub left : scan_of l (pattern_of k) w₀ ≡ scan_of l (drop j (pattern_of k)) w

pub scan_start : {l : List ℕ} {k : ℕ} {w : Scan} → w.at ≤ length l → Scanning l k w 0 w
scan_start h = record { within = h; left = refl }

pub scan_stop : {l : List ℕ} {k j : ℕ} {w₀ w : Scan} → Scanning l k w₀ j w → w.ok ≡ false → w ≡ scan_of l (pattern_of k) w₀
scan_stop {l} {k} {j} {w₀} {w} r e = sym (r.left ∙ scan_failed l (drop j (pattern_of k)) w e)

pub scan_end : {l : List ℕ} {k j : ℕ} {w₀ w : Scan} → Scanning l k w₀ j w → length (pattern_of k) ≤ j → w ≡ scan_of l (pattern_of k) w₀
scan_end {l} {k} {j} {w₀} {w} r h = sym (r.left ∙ (rw (drop_of_length-le (pattern_of k) h) (unfold scan_of in refl)))

pub scan_dot : {l : List ℕ} {k j c : ℕ} {w₀ w : Scan} → Scanning l k w₀ j w → c ≡ get_or (pattern_of k) j 46 → c ≡ 46 → w ≡ scan_of l (pattern_of k) w₀
scan_dot {l} {k} {j} r e q = scan_end r (dot_ends (pattern_of k) j (no_dots k) (sym e ∙ q))

pub scan_full : {l : List ℕ} {k j : ℕ} {w₀ w : Scan} → Scanning l k w₀ j w → 16 ≤ j → w ≡ scan_of l (pattern_of k) w₀
scan_full {l} {k} {j} r h = scan_end r (omega (arith, short k))

pub scan_pass : {l : List ℕ} {k j c : ℕ} {w₀ w v : Scan} → Scanning l k w₀ j w → c ≡ get_or (pattern_of k) j 46 → (c ≡ 46 → ⊥) → v ≡ byte_of l c w
    → Scanning l k w₀ (j + 1) v
scan_pass {l} {k} {j} {c} {w₀} {w} {v} r e q f =
    record {
      within = rw f (turn_within l c w r.within);
      left = rw (f, e, add-one j) (r.left ∙ (rw (drop-cons (pattern_of k) j 46 (not_dot k j c e q)) (unfold scan_of in refl)));
    }
