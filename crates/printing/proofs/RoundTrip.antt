-- The text of a form fits the row of the form's own spelling, the only row that it fits, and that row's form is the form, with R0 in each field
-- that its mnemonic doesn't show.
-- Assumes nothing.
use Prim.Native.Nat.{ℕ, ◌<◌}
use native.Mathlib.Omega.{arith}
use mathlib.Core.Path.{◌≡◌, refl, ap, ◌∙◌}
use mathlib.Core.Bool.{Bool, true, false, cond, ◌||◌}
use mathlib.Core.List.{List, [], ◌∷◌}
use lib.Dec.{eqb}
use lib.ListN.{length}
use borrow.Author.Tests.{eq-eqb, eqb-true, lt-ltb}
use Rattle.slices.proofs.Bools.{by_test}
use Rattle.isa.specs.Encode.{Valid}
use Rattle.isa.specs.declared.Instr.{Instr}
use Rattle.numbers.specs.Numbers.{fields_of, instr_of}
use Rattle.numbers.specs.declared.Fields.{Fields}
use Rattle.std.specs.Prelude.{Some}
use Rattle.spelling.specs.declared.Places.{Places}
use Rattle.reading.specs.Reading.{empty_places, fits, read_of, matched_of}
use Rattle.spelling.specs.Spellings.{spellings, pattern_of, form_at, function_at, table_form, forms_of}
use Rattle.reading.proofs.OneRow.{row_found}
use Rattle.slices.proofs.Tables.{same_below}
use Rattle.printing.specs.Print.{filled, spelling_row, text_of}
use Rattle.printing.specs.Shown.{shown_fields, shown_of}
use Rattle.printing.proofs.OwnRow.{places_by, read_own}
use Rattle.printing.proofs.ValidFields.{valid_fields, Told, row_told}

-- what stands in the places of a form's text: the fields that are shown
abbrev pub places_of : Instr → Places
places_of i = places_by (pattern_of (spelling_row (fields_of i))) (fields_of i) empty_places

pub line_printed : (i : Instr) → Valid i → (fields_of i).5 < 256 → matched_of (text_of i) 0 0 90 ≡ Some (record { row = spelling_row (fields_of i); places = places_of i })
unfolding text_of
line_printed i v h =
    let x = fields_of i in
    let t = filled (pattern_of (spelling_row x)) x in
    let r = read_own x (valid_fields i v) h (spelling_row x) in
    let f : fits t (read_of t 0 (spelling_row x)) ≡ true = rw r (eq-eqb (length t) (length t) refl) in
    row_found t 0 (spelling_row x) (omega (arith, (row_told i v).within)) f ∙ rw r

-- no name stands for an address
pub no_name : (i : Instr) → Valid i → (places_of i).size ≡ 0
unfolding pattern_of spellings
no_name i v = same_below (λ k. (places_by (pattern_of k) (fields_of i) empty_places).size) (λ k. 0) 70 refl (spelling_row (fields_of i)) (row_told i v).within

-- # stands in a spelling
abbrev shows_imm : List ℕ → Bool
shows_imm [] = false
shows_imm (c ∷ p) = eqb c 35 || shows_imm p

-- the form that is read from a row, and the form that was printed, with any way to choose the number of the two that # and @ stand for
module _ (x : Fields) (choose : ℕ → ℕ → ℕ) where
  abbrev form_read : ℕ → Instr
  form_read k =
      let p = places_by (pattern_of k) x empty_places in
      instr_of ((form_at k, p.d, p.a, function_at k, p.b, choose p.imm p.addr))

  abbrev form_shown : ℕ → Instr
  form_shown k =
      instr_of (shown_fields ((form_at k, x.1, x.2, function_at k, x.4, cond (shows_imm (pattern_of k)) (choose x.5 0) (choose 0 x.5))))

  rows_shown : (k : ℕ) → k < 70 → form_read k ≡ form_shown k
  unfolding pattern_of spellings instr_of
  rows_shown k h = same_below form_read form_shown 70 refl k h

-- the one of two numbers that is not 0, as `number_in` chooses
abbrev either : ℕ → ℕ → ℕ
either n m = cond (eqb n 0) m n

either_zero : (t : Bool) (n : ℕ) → cond t (either n 0) (either 0 n) ≡ n
either_zero true n = by_test (eqb n 0) (λ e. rw (eqb-true n 0 e)) (λ e. rw e)
either_zero false n = refl

told_shown : (x : Fields) (k : ℕ) → Told x k → form_read x either k ≡ instr_of (shown_fields x)
told_shown x k t = rows_shown x either k t.within ∙ rw (either_zero (shows_imm (pattern_of k)) x.5, ← t.form, ← t.function)

pub forms_printed : (i : Instr) (at : ℕ) → Valid i → forms_of (spelling_row (fields_of i)) (places_of i) (places_of i).addr at ≡ shown_of i ∷ []
unfolding forms_of table_form
forms_printed i at v =
    let t = row_told i v in
    rw (lt-ltb (spelling_row (fields_of i)) 70 t.within) (ap (λ (j : Instr). j ∷ []) (told_shown (fields_of i) (spelling_row (fields_of i)) t))
