-- How many words a row stands for, whatever stands in its places.
-- Assumes nothing.
use Prim.Native.Nat.{ℕ, zero, suc, ◌+◌, ◌≤◌, ◌<◌}
use native.Mathlib.Omega.{arith}
use mathlib.Core.Path.{◌≡◌, refl, sym, ap, ◌∙◌}
use mathlib.Core.Bool.{Bool, true, false, cond}
use mathlib.Core.List.{List}
use lib.Dec.{eqb, ltb}
use lib.ListN.{length}
use Rattle.slices.proofs.Bools.{by_test}
use Rattle.reading.specs.Reading.{read_of, fits, matched_of}
use Rattle.spelling.specs.Spellings.{forms_of}
use Rattle.std.specs.Prelude.{Option, Some, None}
use Rattle.reading.specs.declared.Fit.{Fit}
use Rattle.spelling.specs.declared.Places.{Places}
use Rattle.slices.proofs.Tables.{same_below}
use Rattle.labels.specs.Lines.{label_size, line_of, size_in, size_of}
use Rattle.labels.specs.internal.Search.{WordsOf}

abbrev size_by : ℕ → ℕ
size_by k = cond (ltb k 81) 1 (cond (ltb k 86) 2 3)

size_is : (p : Places) (to at k : ℕ) → k < 90 → size_by k ≡ length (forms_of k p to at)
unfolding forms_of
size_is p to at k h = same_below size_by (λ k. length (forms_of k p to at)) 90 refl k h

-- a row stands for as many words whatever stands in its places
pub row_length : (k : ℕ) → k < 90 → (p q : Places) (to to' at at' : ℕ) → length (forms_of k p to at) ≡ length (forms_of k q to' at')
row_length k h p q to to' at at' = sym (size_is p to at k h) ∙ size_is q to' at' k h

-- and for one at least
row_some : (k : ℕ) → k < 90 → (p : Places) (to at : ℕ) → length (forms_of k p to at) ≡ 0 → ⊥
row_some k h p to at z =
    let some : 0 < size_by k = by_test (ltb k 81) (λ e. rw e (omega arith)) (λ e. by_test (ltb k 86) (λ f. rw (e, f) (omega arith)) (λ f. rw (e, f) (omega arith))) in
    omega (arith, size_is p to at k h)

pub row_words : (k n : ℕ) → k < 90 → n ≤ 3 → n ≡ size_by k → WordsOf k n
row_words k n h l e = (l, λ p to at. e ∙ size_is p to at k h)

abbrev is_fit : Option Fit → Bool
is_fit (Some f) = true
is_fit None = false

abbrev row_in : Option Fit → ℕ
row_in (Some f) = f.row
row_in None = 0

no : false ≡ true → ⊥
no q = let z : ◌≡◌ {A = ℕ} 0 1 = cc in omega arith

-- the row that a line fits is one of the table
matched_low : (l : List ℕ) (i k n : ℕ) {f : Fit} → matched_of l i k n ≡ Some f → f.row < k + n
unfolding matched_of
matched_low l i k zero e = absurd (misfit e)
  where
    misfit : {f : Fit} → ◌≡◌ {A = Option Fit} None (Some f) → ⊥
    misfit e = no (ap is_fit e)
matched_low l i k (suc n) {f} e =
    by_test (fits l (read_of l i k))
    (λ t. let q : k ≡ f.row = ap row_in (rw t at e) in omega arith)
    (λ t. omega (arith, matched_low l i (suc k) n (rw t at e)))

module _ (l : List ℕ) {m : Option Fit} (e : m ≡ line_of l) where
  pub matched_row : {f : Fit} → m ≡ Some f → f.row < 90
  unfolding line_of
  matched_row q = matched_low l (cond (eqb (label_size l) 0) 0 (label_size l + 2)) 0 90 (sym e ∙ q)

  pub size_fits : {f : Fit} {r : ℕ} → m ≡ Some f → WordsOf f.row r → (r ≡ size_of l) × (r ≤ 3)
  unfolding size_of
  size_fits {f} {r} q w = (w.1 f.places 0 0 ∙ sym (ap size_in (sym e ∙ q)), w.0)

  pub size_some : {f : Fit} → m ≡ Some f → size_of l ≡ 0 → ⊥
  unfolding size_of
  size_some {f} q z = row_some f.row (matched_row q) f.places 0 0 (sym (ap size_in (sym e ∙ q)) ∙ z)

  pub size_misfits : m ≡ None → 0 ≡ size_of l
  unfolding size_of
  size_misfits q = sym (ap size_in (sym e ∙ q))
