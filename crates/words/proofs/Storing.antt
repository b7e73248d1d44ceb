-- Forms stored one behind another: a row's one, two or three; a line's behind another's; and all of them in banks of zeros.
-- Assumes nothing.
use Prim.Native.Nat.{ℕ, zero, suc, ◌+◌, ◌-◌, ◌≤◌, ◌<◌}
use native.Mathlib.Omega.{arith}
use mathlib.Core.Path.{◌≡◌, refl, sym, ap, ap₂, ◌∙◌}
use mathlib.Core.List.{List, [], ◌∷◌, ◌++◌}
use lib.ListN.{length, get_or, take, set, replicate, length-append}
use lib.Seq.{append_snoc, set-append_seam, take-append-add}
use Rattle.slices.specs.Lists.{mapped}
use Rattle.slices.specs.Parts.{padded}
use Rattle.isa.specs.declared.Instr.{Instr}
use Rattle.isa.specs.declared.Instr.TheVariants.{Nop}
use Rattle.spelling.specs.Spellings.{forms_of}
use Rattle.spelling.specs.declared.Places.{Places}
use Rattle.slices.proofs.Lookup.{length_mapped}
use Rattle.slices.proofs.Tables.{same_below}
use Rattle.words.specs.internal.Storing.{stored_in}

pub stored_append : (byte : Instr → ℕ) (xs ys : List Instr) (at : ℕ) (b : List ℕ)
    → stored_in byte (xs ++ ys) at b ≡ stored_in byte ys (at + length xs) (stored_in byte xs at b)
unfolding stored_in
stored_append byte [] ys at b = ap (λ (n : ℕ). stored_in byte ys n b) (omega arith)
stored_append byte (x ∷ xs) ys at b =
    stored_append byte xs ys (at + 1) (set b at (byte x))
    ∙ ap (λ (n : ℕ). stored_in byte ys n (stored_in byte xs (at + 1) (set b at (byte x)))) (omega arith)

-- the rows of one, two and three words
module _ (p : Places) (to at : ℕ) where
  abbrev form : ℕ → ℕ → Instr
  form k n = get_or (forms_of k p to at) n Nop

  one_form : (k : ℕ) → k < 81 → forms_of k p to at ≡ form k 0 ∷ []
  unfolding forms_of
  one_form k h = same_below (λ k. forms_of k p to at) (λ k. form k 0 ∷ []) 81 refl k h

  two_forms : (k : ℕ) → k < 5 → forms_of (81 + k) p to at ≡ form (81 + k) 0 ∷ form (81 + k) 1 ∷ []
  unfolding forms_of
  two_forms k h = same_below (λ k. forms_of (81 + k) p to at) (λ k. form (81 + k) 0 ∷ form (81 + k) 1 ∷ []) 5 refl k h

  three_forms : (k : ℕ) → k < 4 → forms_of (86 + k) p to at ≡ form (86 + k) 0 ∷ form (86 + k) 1 ∷ form (86 + k) 2 ∷ []
  unfolding forms_of
  three_forms k h = same_below (λ k. forms_of (86 + k) p to at) (λ k. form (86 + k) 0 ∷ form (86 + k) 1 ∷ form (86 + k) 2 ∷ []) 4 refl k h

  module _ (byte : Instr → ℕ) (k : ℕ) (b : List ℕ) {b1 : List ℕ} {i : Instr} where
    pub stored_one : k < 81 → i ≡ form k 0 → b1 ≡ set b at (byte i) → b1 ≡ stored_in byte (forms_of k p to at) at b
    unfolding stored_in
    stored_one h e f = rw (one_form k h, ← e) f

    pub stored_two : {b2 : List ℕ} {j : Instr} → 81 ≤ k → k < 86 → i ≡ form k 0 → j ≡ form k 1 → b1 ≡ set b at (byte i) → b2 ≡ set b1 (at + 1) (byte j)
        → b2 ≡ stored_in byte (forms_of k p to at) at b
    unfolding stored_in
    stored_two {j = j} l h e f q r =
        let s : 81 + (k - 81) ≡ k = omega arith in
        let w : forms_of k p to at ≡ form k 0 ∷ form k 1 ∷ [] = rw s at (two_forms (k - 81) (omega arith)) in
        rw (w, ← e, ← f) (r ∙ ap (λ (x : List ℕ). set x (at + 1) (byte j)) q)

    pub stored_three : {b2 b3 : List ℕ} {j m : Instr} → 86 ≤ k → k < 90 → i ≡ form k 0 → j ≡ form k 1 → m ≡ form k 2
        → b1 ≡ set b at (byte i) → b2 ≡ set b1 (at + 1) (byte j) → b3 ≡ set b2 (at + 2) (byte m) → b3 ≡ stored_in byte (forms_of k p to at) at b
    unfolding stored_in
    stored_three {j = j} {m} l h e f g q r t =
        let s : 86 + (k - 86) ≡ k = omega arith in
        let w : forms_of k p to at ≡ form k 0 ∷ form k 1 ∷ form k 2 ∷ [] = rw s at (three_forms (k - 86) (omega arith)) in
        let d : at + 1 + 1 ≡ at + 2 = omega arith in
        rw (w, ← e, ← f, ← g, d)
        (t ∙ ap (λ (x : List ℕ). set x (at + 2) (byte m)) (r ∙ ap (λ (x : List ℕ). set x (at + 1) (byte j)) q))

abbrev pub zeros : ℕ → List ℕ
zeros n = replicate n 0

-- forms stored behind others, in zeros that have room for them
stored_behind : (byte : Instr → ℕ) (is : List Instr) (front : List ℕ) (n : ℕ) → length is ≤ n
    → stored_in byte is (length front) (front ++ zeros n) ≡ front ++ (mapped byte is ++ zeros (n - length is))
unfolding stored_in
stored_behind byte [] front n h = let e : n ≡ n - 0 = omega arith in ap (λ (m : ℕ). front ++ zeros m) e
stored_behind byte (i ∷ is) front zero h = absurd (omega arith)
stored_behind byte (i ∷ is) front (suc n) h =
    let d : suc n - suc (length is) ≡ n - length is = omega arith in
    ap₂ (stored_in byte is) (sym (length-append front (byte i ∷ []))) (set-append_seam front 0 (zeros n) (byte i) ∙ sym (append_snoc front (byte i) (zeros n)))
    ∙ (stored_behind byte is (front ++ (byte i ∷ [])) n (omega arith)
    ∙ (append_snoc front (byte i) (mapped byte is ++ zeros (n - length is)) ∙ ap (λ (m : ℕ). front ++ (byte i ∷ (mapped byte is ++ zeros m))) (sym d)))

take_zeros : (m n : ℕ) → m ≤ n → take m (zeros n) ≡ zeros m
take_zeros zero n h = refl
take_zeros (suc m) zero h = absurd (omega arith)
take_zeros (suc m) (suc n) h = ap {B = List ℕ} (λ r. 0 ∷ r) (take_zeros m n (omega arith))

-- forms stored in a bank of zeros
pub stored_whole : (byte : Instr → ℕ) (is : List Instr) → length is ≤ 256 → stored_in byte is 0 (zeros 256) ≡ padded 256 (mapped byte is)
stored_whole byte is h =
    let l = length_mapped byte is in
    let e : 256 ≡ length (mapped byte is) + (256 - length is) = omega arith in
    stored_behind byte is [] 256 h
    ∙ sym (ap (λ (n : ℕ). take n (mapped byte is ++ zeros 256)) e
    ∙ (take-append-add (mapped byte is) (zeros 256) (256 - length is) ∙ ap (λ (z : List ℕ). mapped byte is ++ z) (take_zeros (256 - length is) 256 (omega arith))))
