-- No text of a form has a line feed or a colon, so it is one line and gives no label; and a valid form's is not empty.
-- Assumes nothing.
use Prim.Native.Nat.{ℕ, zero, suc, ◌+◌, ◌/◌, ◌%◌, ◌<◌}
use native.Mathlib.Omega.{arith}
use mathlib.Core.Path.{◌≡◌, refl}
use mathlib.Core.Bool.{Bool, true, false, not, ◌&&◌, ◌||◌, false≢true}
use mathlib.Core.List.{List, [], ◌∷◌, ◌++◌}
use lib.Dec.{eqb}
use lib.ListN.{length}
use borrow.Author.Tests.{ne_eqb}
use Rattle.slices.proofs.Bools.{by_test, both}
use Rattle.pages.specs.Text.{digit, digits, decimal}
use Rattle.isa.specs.Encode.{Valid}
use Rattle.isa.specs.declared.Instr.{Instr}
use Rattle.numbers.specs.Numbers.{fields_of}
use Rattle.numbers.specs.declared.Fields.{Fields}
use Rattle.spelling.specs.Spellings.{spellings, pattern_of}
use Rattle.spelling.proofs.Rows.{all, all_at}
use Rattle.slices.proofs.Tables.{same_below}
use Rattle.printing.specs.Print.{shown_at, filled, spelling_row, text_of}
use Rattle.printing.proofs.ValidFields.{row_told}

-- neither a line feed (10) nor a colon (58)
abbrev pub plain : ℕ → Bool
plain c = not (eqb c 10) && not (eqb c 58)

all_append : {A : Type 0} (f : A → Bool) (xs ys : List A) → all f xs ≡ true → all f ys ≡ true → all f (xs ++ ys) ≡ true
all_append f [] ys a b = b
all_append f (x ∷ xs) ys a b = let u = both (f x) (all f xs) a in rw u.0 (all_append f xs ys u.1 b)

digit_plain : (n : ℕ) → all plain (digit n ∷ []) ≡ true
digit_plain n = rw (ne_eqb (48 + n % 10) 10 (λ e. omega arith), ne_eqb (48 + n % 10) 58 (λ e. omega arith))

digits_plain : (most n : ℕ) → all plain (digits most n) ≡ true
unfolding digits
digits_plain zero n = refl
digits_plain (suc most) zero = refl
digits_plain (suc most) (suc n) = all_append plain (digits most (suc n / 10)) _ (digits_plain most (suc n / 10)) (digit_plain (suc n))

decimal_plain : (n : ℕ) → all plain (decimal n) ≡ true
unfolding decimal
decimal_plain n = all_append plain (digits n (n / 10)) _ (digits_plain n (n / 10)) (digit_plain n)

shown_plain : (x : Fields) (c : ℕ) → plain c ≡ true → all plain (shown_at x c) ≡ true
unfolding shown_at
shown_plain x c h =
    by_test (eqb c 88) (λ e. rw e (decimal_plain x.1)) (λ e.
    by_test (eqb c 89) (λ f. rw (e, f) (decimal_plain x.2)) (λ f.
    by_test (eqb c 90) (λ g. rw (e, f, g) (decimal_plain x.4)) (λ g.
    by_test (eqb c 35 || eqb c 64) (λ i. rw (e, f, g, i) (decimal_plain x.5)) (λ i. rw (e, f, g, i, h)))))

filled_plain : (p : List ℕ) (x : Fields) → all plain p ≡ true → all plain (filled p x) ≡ true
unfolding filled
filled_plain [] x e = refl
filled_plain (c ∷ p) x e =
    let u = both (plain c) (all plain p) e in
    all_append plain (shown_at x c) (filled p x) (shown_plain x c u.0) (filled_plain p x u.1)

pub text_plain : (i : Instr) → all plain (text_of i) ≡ true
unfolding text_of pattern_of spellings
text_plain i = filled_plain (pattern_of (spelling_row (fields_of i))) (fields_of i) (all_at (all plain) [] spellings refl refl (spelling_row (fields_of i)))

abbrev some : List ℕ → Bool
some [] = false
some (c ∷ l) = true

some_long : (l : List ℕ) → some l ≡ true → 0 < length l
some_long [] e = absurd (false≢true e)
some_long (c ∷ l) e = omega arith

pub text_some : (i : Instr) → Valid i → 0 < length (text_of i)
unfolding text_of pattern_of spellings filled shown_at
text_some i v = let x = fields_of i in some_long (text_of i) (same_below (λ k. some (filled (pattern_of k) x)) (λ k. true) 70 refl (spelling_row x) (row_told i v).within)
