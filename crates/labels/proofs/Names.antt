-- Labels and names: what a label's bytes are, and when two names are the same.
-- Assumes nothing.
use Prim.Native.Nat.{ℕ, ◌+◌, ◌-◌, ◌≤◌, ◌<◌}
use native.Mathlib.Omega.{arith}
use mathlib.Core.Path.{◌≡◌, refl, sym, ap, ap₂, ◌∙◌}
use mathlib.Core.Bool.{Bool, true, false, ◌&&◌}
use mathlib.Core.List.{List, [], ◌∷◌}
use lib.Dec.{eqb, leb, ltb}
use lib.ListN.{length, get_or, take, get_or-eq_default}
use lib.Seq.{get_or-take, length-take-le}
use borrow.Author.Tests.{eqb-true, eqb-false, lt-leb, leb-true, ltb-true, ltb-false}
use Rattle.slices.proofs.Bools.{by_test, both}
use Rattle.spelling.specs.Words.{word_length}
use Rattle.labels.specs.Lines.{label_size, label_of}
use Rattle.labels.specs.Labels.{same}

abbrev pub label_test : List ℕ → Bool
label_test l = leb 1 (word_length true l) && leb (word_length true l) 12 && eqb (get_or l (word_length true l) 0) 58 && eqb (get_or l (word_length true l + 1) 0) 32

-- what a label's size tells
pub label_read : (l : List ℕ) → (label_size l ≡ 0 → ⊥) → (label_size l ≡ word_length true l) × (label_test l ≡ true)
unfolding label_size
label_read l f = by_test (label_test l) (λ e. (rw e, e)) (λ e. absurd (f (rw e)))

pub label_untold : (l : List ℕ) → label_test l ≡ false → label_size l ≡ 0
unfolding label_size
label_untold l t = rw t

pub label_told : (l : List ℕ) {n : ℕ} → n ≡ word_length true l → label_test l ≡ true → (n ≡ label_size l) × (label_size l ≡ 0 → ⊥)
unfolding label_size
label_told l {n} e t =
    let some : 1 ≤ word_length true l = leb-true _ _ (both (leb 1 (word_length true l)) (leb (word_length true l) 12)
    (both (leb 1 (word_length true l) && leb (word_length true l) 12) _ (both _ _ t).0).0).0 in
    (rw (t, e), λ z. omega (arith, rw t at z))

-- a label, the colon and the space stand inside the line
pub label_fits : (l : List ℕ) → (label_size l ≡ 0 → ⊥) → label_size l + 2 ≤ length l
label_fits l f =
    let n = word_length true l in
    let r = label_read l f in
    by_test (ltb (n + 1) (length l))
    (λ k. let q = ltb-true (n + 1) (length l) k in omega (arith, r.0))
    (λ k. let q = ltb-false (n + 1) (length l) k in
    let z : get_or l (n + 1) 0 ≡ 32 = eqb-true _ _ (both (leb 1 n && leb n 12 && eqb (get_or l n 0) 58) _ r.1).1 in
    let y : get_or l (n + 1) 0 ≡ 0 = get_or-eq_default l 0 q in absurd (omega arith))

-- a colon stands behind a label
pub label_colon : (l : List ℕ) → (label_size l ≡ 0 → ⊥) → get_or l (label_size l) 0 ≡ 58
label_colon l f =
    let n = word_length true l in
    let r = label_read l f in
    rw r.0 (eqb-true _ _ (both (leb 1 n && leb n 12) _ (both (leb 1 n && leb n 12 && eqb (get_or l n 0) 58) _ r.1).0).1)

second_false : (a b c d : Bool) → b ≡ false → (((a && b) && c) && d) ≡ false
second_false true b c d e = rw e
second_false false b c d e = refl

pub label_long : (l : List ℕ) → 12 < word_length true l → label_size l ≡ 0
unfolding label_size
label_long l h = rw (second_false (leb 1 (word_length true l)) (leb (word_length true l) 12) (eqb (get_or l (word_length true l) 0) 58) (eqb (get_or l (word_length true l + 1) 0) 32) (lt-leb (word_length true l) 12 h))

-- the same names are equal
pub same_equal : (a b : List ℕ) → same a b ≡ true → a ≡ b
same_equal [] [] e = refl
same_equal [] (d ∷ b) e = cc
same_equal (c ∷ a) [] e = cc
same_equal (c ∷ a) (d ∷ b) e = let t = both (eqb c d) (same a b) e in ap₂ ◌∷◌ (eqb-true c d t.0) (same_equal a b t.1)

-- a line gives a name: it is labelled, and its first bytes are the name's
pub given_labelled : (l name : List ℕ) → 0 < length name → label_of l ≡ name → label_size l ≡ 0 → ⊥
given_labelled l name h e z = omega (arith, ap length (sym e ∙ ap (λ (n : ℕ). take n l) z))

pub label_length : (l : List ℕ) → length (label_of l) ≡ label_size l
label_length l = by_test (eqb (label_size l) 0)
    (λ t. let z = eqb-true (label_size l) 0 t in rw z)
    (λ t. length-take-le (label_size l) l (omega (arith, label_fits l (eqb-false (label_size l) 0 t))))

pub no_colon : (l name : List ℕ) → 0 < length name → (get_or l (length name) 0 ≡ 58 → ⊥) → same (label_of l) name ≡ false
no_colon l name h f =
    by_test (same (label_of l) name)
    (λ t.
    let e = same_equal (label_of l) name t in
    let s : label_size l ≡ length name = sym (label_length l) ∙ ap length e in
    absurd (f (ap (λ (n : ℕ). get_or l n 0) (sym s) ∙ label_colon l (given_labelled l name h e))))
    (λ t. t)

pub other_last : (l name : List ℕ) → 0 < length name → (get_or l (length name - 1) 0 ≡ get_or name (length name - 1) 0 → ⊥) → same (label_of l) name ≡ false
other_last l name h f =
    by_test (same (label_of l) name)
    (λ t.
    let e = same_equal (label_of l) name t in
    let s : label_size l ≡ length name = sym (label_length l) ∙ ap length e in
    absurd (f (sym (get_or-take (label_size l) l (length name - 1) 0 (omega arith)) ∙ ap (λ (n : List ℕ). get_or n (length name - 1) 0) e)))
    (λ t. t)
