-- The encoder takes every form that a line stands for: its registers are those in the line's places, or R0, and its function is that of its row
-- or macro.
-- Assumes nothing.
use Prim.Native.Nat.{ℕ, ◌+◌, ◌-◌, ◌≤◌}
use native.Mathlib.Omega.{arith}
use mathlib.Core.Path.{◌≡◌, refl}
use mathlib.Core.Bool.{Bool, true, false, not, ◌&&◌}
use mathlib.Core.List.{List, [], ◌∷◌, ◌++◌}
use lib.Dec.{eqb, ltb}
use borrow.Author.Tests.{ltb-true, le-ltb}
use Rattle.slices.specs.Lists.{mapped}
use Rattle.slices.proofs.Bools.{by_test, both}
use Rattle.isa.specs.Decode.{forms}
use Rattle.isa.specs.Encode.{bad_register, bad_function}
use Rattle.isa.specs.Table.{row_of, argument_in}
use Rattle.isa.specs.declared.Instr.{Instr}
use Rattle.isa.specs.declared.Instr.TheVariants.{Nop}
use Rattle.numbers.specs.Numbers.{instr_of}
use Rattle.spelling.specs.Spellings.{Macro, macros, row_count, first_macro, form_at, function_at, number_in, table_form, forms_of}
use Rattle.std.specs.Prelude.{Option, Some, None}
use Rattle.reading.specs.declared.Fit.{Fit}
use Rattle.spelling.specs.declared.Places.{Places}
use Rattle.reading.proofs.InRange.{InRange, MatchedInRange, matched_in_range}
use Rattle.spelling.proofs.Rows.{all, all_at}
use Rattle.labels.specs.Lines.{lines_of, line_of, size_of}
use Rattle.words.specs.Program.{target_of, forms_in, forms_from, program_of}

-- the encoder takes a form
abbrev pub taken : Instr → Bool
taken i = not (bad_register (row_of i)) && not (bad_function (argument_in (row_of i)))

-- the forty forms, with registers and a function in range
forms_taken : (d a f b n : ℕ) → ltb 3 d ≡ false → ltb 3 a ≡ false → ltb 15 f ≡ false → ltb 3 b ≡ false → all taken (forms d a f b n) ≡ true
forms_taken d a f b n hd ha hf hb = rw (hd, ha, hf, hb) refl

-- the macros, whatever their address and the one they name
macros_taken : (p : Places) (to at : ℕ) → ltb 3 p.d ≡ false → ltb 3 p.a ≡ false → ltb 3 p.b ≡ false
    → all (all taken) (mapped (λ (m : Macro). m.forms p to at) macros) ≡ true
macros_taken p to at hd ha hb = rw (hd, ha, hb) refl

function_low : (k : ℕ) → function_at k ≤ 15
function_low k =
    by_test (ltb k 16) (λ e. rw e (omega (arith, ltb-true k 16 e))) (λ e. rw e (
    by_test (eqb k 16) (λ f. rw f (omega arith)) (λ f. rw f (
    by_test (ltb k 33) (λ g. rw g (omega (arith, ltb-true k 33 g))) (λ g. rw g (omega arith))))))

row_taken : (k : ℕ) (p : Places) (to at : ℕ) → InRange p → all taken (forms_of k p to at) ≡ true
unfolding forms_of table_form instr_of
row_taken k p to at h =
    let hd = le-ltb 3 p.d (omega (arith, h.d)) in
    let ha = le-ltb 3 p.a (omega (arith, h.a)) in
    let hb = le-ltb 3 p.b (omega (arith, h.b)) in
    by_test (ltb k first_macro)
    (λ e.
    let t = forms_taken p.d p.a (function_at k) p.b (number_in p to) hd ha (le-ltb 15 (function_at k) (function_low k)) hb in
    rw (e, all_at taken Nop (forms p.d p.a (function_at k) p.b (number_in p to)) refl t (form_at k)))
    (λ e. rw e (all_at (all taken) [] (mapped (λ (m : Macro). m.forms p to at) macros) refl (macros_taken p to at hd ha hb) (k - first_macro)))

line_taken : (m : Option Fit) (whole : List (List ℕ)) (l : List ℕ) (at : ℕ) → MatchedInRange m → all taken (forms_in m whole l at) ≡ true
line_taken (Some f) whole l at h = row_taken f.row f.places (target_of whole l f.places) at h
line_taken None whole l at h = refl

all_append : (is js : List Instr) → all taken is ≡ true → all taken js ≡ true → all taken (is ++ js) ≡ true
all_append [] js e f = f
all_append (i ∷ is) js e f = let u = both (taken i) (all taken is) e in rw u.0 (all_append is js u.1 f)

lines_taken : (whole ls : List (List ℕ)) (at : ℕ) → all taken (forms_from whole ls at) ≡ true
unfolding forms_from line_of
lines_taken whole [] at = refl
lines_taken whole (l ∷ ls) at =
    all_append (forms_in (line_of l) whole l at) (forms_from whole ls (at + size_of l)) (line_taken (line_of l) whole l at (matched_in_range l _ 0 row_count))
    (lines_taken whole ls (at + size_of l))

pub program_taken : (t : List ℕ) → all taken (program_of t) ≡ true
unfolding program_of
program_taken t = lines_taken (lines_of t) (lines_of t) 0
