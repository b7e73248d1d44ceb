-- No text is over 23 characters, whatever bytes stand in a form's fields: the widest spelling, by one test of all of them.
-- Assumes nothing.
use Prim.Native.Nat.{ℕ, ◌+◌, ◌≤◌, ◌<◌}
use native.Mathlib.Omega.{arith}
use mathlib.Core.Path.{refl}
use mathlib.Core.Bool.{cond, ◌||◌}
use mathlib.Core.List.{List, [], ◌∷◌}
use lib.Dec.{eqb, leb}
use lib.ListN.{length, length-append}
use borrow.Author.Tests.{leb-true}
use Rattle.slices.proofs.Bools.{by_test}
use Rattle.slices.proofs.Below as below
use Rattle.pages.specs.Text.{digits, decimal}
use Rattle.isa.specs.declared.Instr.{Instr}
use Rattle.numbers.specs.Numbers.{fields_of}
use Rattle.numbers.specs.declared.Fields.{Fields}
use Rattle.spelling.specs.Spellings.{spellings, pattern_of}
use Rattle.spelling.proofs.Rows.{all_at}
use Rattle.printing.specs.Print.{shown_at, filled, spelling_row, text_of, text_width}
use Rattle.printing.proofs.Bytes.{Bytes}

-- the most characters that are printed for a byte of a spelling
abbrev width : ℕ → ℕ
width c = cond (eqb c 88 || eqb c 89 || eqb c 90) 4 (cond (eqb c 35 || eqb c 64) 3 1)

abbrev widths : List ℕ → ℕ
widths [] = 0
widths (c ∷ p) = width c + widths p

rows_narrow : (k : ℕ) → widths (pattern_of k) ≤ text_width
unfolding pattern_of spellings
rows_narrow k = leb-true _ _ (all_at (λ s. leb (widths s) text_width) [] spellings refl refl k)

decimal_short : (n : ℕ) → n < 256 → length (decimal n) ≤ 3
unfolding decimal digits
decimal_short n h = leb-true _ _ (below.at (λ n. leb (length (decimal n)) 3) 256 refl n h)

module _ (x : Fields) (h : Bytes x) where
  shown_short : (c : ℕ) → length (shown_at x c) ≤ width c
  unfolding shown_at
  shown_short c =
      by_test (eqb c 88) (λ e. rw e (omega (arith, decimal_short x.1 h.d))) (λ e.
      by_test (eqb c 89) (λ f. rw (e, f) (omega (arith, decimal_short x.2 h.a))) (λ f.
      by_test (eqb c 90) (λ g. rw (e, f, g) (omega (arith, decimal_short x.4 h.b))) (λ g.
      by_test (eqb c 35 || eqb c 64) (λ i. rw (e, f, g, i) (decimal_short x.5 h.n)) (λ i. rw (e, f, g, i) (omega arith)))))

  filled_short : (p : List ℕ) → length (filled p x) ≤ widths p
  unfolding filled
  filled_short [] = omega arith
  filled_short (c ∷ p) = omega (arith, shown_short c, filled_short p, length-append (shown_at x c) (filled p x))

  filled_narrow : (k : ℕ) → length (filled (pattern_of k) x) ≤ text_width
  filled_narrow k = omega (arith, filled_short (pattern_of k), rows_narrow k)

pub text_short : (i : Instr) → Bytes (fields_of i) → length (text_of i) ≤ text_width
unfolding text_of
text_short i h = filled_narrow (fields_of i) h (spelling_row (fields_of i))
