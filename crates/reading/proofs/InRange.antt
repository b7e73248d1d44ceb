-- What stands in the places of a line: a register there is one of R0 to R3, by whatever row the line is read.
-- Assumes nothing.
use Prim.Native.Nat.{ℕ, zero, suc, ◌<◌}
use native.Mathlib.Omega.{arith}
use mathlib.Core.Bool.{Bool, true, false, cond, ◌&&◌}
use mathlib.Core.List.{List, [], ◌∷◌}
use lib.Dec.{eqb, leb, ltb}
use lib.ListN.{length, get_or, drop}
use borrow.Author.Tests.{ltb-true}
use Rattle.slices.proofs.Bools.{by_test, both}
use Rattle.std.specs.Prelude.{Option, Some, None}
use Rattle.reading.specs.declared.Fit.{Fit}
use Rattle.spelling.specs.declared.Operand.{Operand}
use Rattle.spelling.specs.declared.Operand.TheVariants.{Register, Number, Name, Other}
use Rattle.spelling.specs.declared.Places.{Places}
use Rattle.reading.specs.declared.Scan.{Scan}
use Rattle.spelling.specs.Words.{word_length, digit_of, numeral_of, operand_of, word_of}
use Rattle.spelling.specs.Spellings.{pattern_of}
use Rattle.reading.specs.Reading.{is_place, took_of, literal_of, byte_of, scan_of, read_of, fits, matched_of}

-- the registers in the places are at most 3
pub record InRange (p : Places) : Type 0 where
  pub d : p.d < 4
  pub a : p.a < 4
  pub b : p.b < 4

-- of the row that a line fits, if it fits one
abbrev pub MatchedInRange : Option Fit → Type 0
MatchedInRange (Some f) = InRange f.places
MatchedInRange None = Unit {0}

-- a word that is a register is one of the four
abbrev LowOperand : Operand → Type 0
LowOperand (Register r) = r < 4
LowOperand (Number v) = Unit {0}
LowOperand Name = Unit {0}
LowOperand Other = Unit {0}

no_register : (t u : Bool) (v : ℕ) → LowOperand (cond t (Number v) (cond u Name Other))
no_register true u v = tt
no_register false true v = tt
no_register false false v = tt

operand_low : (w : List ℕ) → LowOperand (operand_of w)
unfolding operand_of
operand_low w =
    let r = digit_of (get_or w 1 0) in
    let n = numeral_of (length w) (get_or w 0 0) (get_or w 1 0) (get_or w 2 0) (get_or w 3 0) in
    by_test (eqb (length w) 2 && eqb (get_or w 0 0) 82 && ltb r 4)
    (λ e. rw e (ltb-true r 4 (both (eqb (length w) 2 && eqb (get_or w 0 0) 82) (ltb r 4) e).1))
    (λ e. rw e (no_register (ltb n 256) (eqb (length w) (word_length true w) && leb 1 (length w) && leb (length w) 12) n))

cond_in_range : (t : Bool) (x y : Scan) → InRange x.places → InRange y.places → InRange (cond t x y).places
cond_in_range true x y h k = h
cond_in_range false x y h k = k

took_in_range : (o : Operand) (c i : ℕ) (s : Scan) → LowOperand o → InRange s.places → InRange (took_of o c i s).places
took_in_range (Register r) c i s h k =
    cond_in_range (eqb c 88) _ _ (record { d = h; a = k.a; b = k.b })
    (cond_in_range (eqb c 89) _ _ (record { d = k.d; a = h; b = k.b })
    (cond_in_range (eqb c 90) _ _ (record { d = k.d; a = k.a; b = h }) k))
took_in_range (Number v) c i s h k =
    cond_in_range (eqb c 35) _ _ (record { d = k.d; a = k.a; b = k.b })
    (cond_in_range (eqb c 64) _ _ (record { d = k.d; a = k.a; b = k.b }) k)
took_in_range Name c i s h k = cond_in_range (eqb c 64) _ _ (record { d = k.d; a = k.a; b = k.b }) k
took_in_range Other c i s h k = k

literal_in_range : (l : List ℕ) (c : ℕ) (s : Scan) → InRange s.places → InRange (literal_of l c s).places
unfolding literal_of
literal_in_range l c s h = by_test (ltb s.at (length l) && eqb (get_or l s.at 0) c) (λ e. rw e h) (λ e. rw e h)

byte_in_range : (l : List ℕ) (c : ℕ) (s : Scan) → InRange s.places → InRange (byte_of l c s).places
unfolding byte_of
byte_in_range l c s h =
    let w = word_of (drop s.at l) in
    cond_in_range s.ok _ s
    (cond_in_range (is_place c) (took_of (operand_of w) c _ s) (literal_of l c s) (took_in_range (operand_of w) c _ s (operand_low w) h) (literal_in_range l c s h))
    h

scan_in_range : (l p : List ℕ) (s : Scan) → InRange s.places → InRange (scan_of l p s).places
unfolding scan_of
scan_in_range l [] s h = h
scan_in_range l (c ∷ p) s h = scan_in_range l p (byte_of l c s) (byte_in_range l c s h)

read_in_range : (l : List ℕ) (i k : ℕ) → InRange (read_of l i k).places
unfolding read_of
read_in_range l i k = scan_in_range l (pattern_of k) _ (record { d = omega arith; a = omega arith; b = omega arith })

pub matched_in_range : (l : List ℕ) (i k n : ℕ) → MatchedInRange (matched_of l i k n)
unfolding matched_of
matched_in_range l i k zero = tt
matched_in_range l i k (suc n) = by_test (fits l (read_of l i k)) (λ e. rw e (read_in_range l i k)) (λ e. rw e (matched_in_range l i (suc k) n))
