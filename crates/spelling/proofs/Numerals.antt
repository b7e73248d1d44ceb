-- Digits and numbers as answers: what an answer tells of the number, and the number of the answer.
-- Assumes nothing.
use Prim.Native.Nat.{ℕ, ◌+◌, ◌-◌, ◌*◌, ◌≤◌, ◌<◌}
use native.Mathlib.Omega.{arith}
use mathlib.Core.Path.{◌≡◌, sym, ap, ◌∙◌}
use mathlib.Core.Bool.{Bool, true, false, cond, not, ◌&&◌}
use mathlib.Core.List.{List}
use lib.Dec.{eqb, leb, ltb}
use lib.ListN.{length, get_or}
use borrow.Author.Tests.{lt-ltb, le-ltb, lt-leb, le-leb, ltb-true, ltb-false, eq-eqb, ne_eqb}
use Rattle.std.specs.Prelude.{Option, Some, None}
use Rattle.std.specs.Option.{is_some, unwrap_or}
use Rattle.slices.proofs.Bools.{by_test}
use Rattle.spelling.specs.Words.{word_length, digit_of, decimal_of, numeral_of, operand_of}
use Rattle.spelling.specs.declared.Operand.TheVariants.{Register, Number, Name, Other}
use Rattle.spelling.specs.internal.Numbers.{if_below, register_of}

pub below_some : {v : ℕ} (most n : ℕ) → v ≡ n → n < most → Some v ≡ if_below most n
below_some most n e h = rw (lt-ltb n most h, e)

pub below_none : (most n : ℕ) → most ≤ n → None ≡ if_below most n
below_none most n h = rw (le-ltb n most h)

no : true ≡ false → ⊥
no q = let z : ◌≡◌ {A = ℕ} 0 1 = cc in omega arith

at_bound : (most n : ℕ) (t : Bool) → ltb n most ≡ t → if_below most n ≡ cond t (Some n) None
at_bound most n t e = rw e

module _ {r : Option ℕ} (most n : ℕ) (e : r ≡ if_below most n) where
  pub some_told : {v : ℕ} → r ≡ Some v → (v ≡ n) × (n < most)
  some_told {v} q =
      by_test (ltb n most)
      (λ t. (ap (λ (x : Option ℕ). unwrap_or x 0) (sym q ∙ (e ∙ at_bound most n true t)), ltb-true n most t))
      (λ t. absurd (no (ap is_some (sym q ∙ (e ∙ at_bound most n false t)))))

  pub none_told : r ≡ None → most ≤ n
  none_told q =
      by_test (ltb n most)
      (λ t. absurd (no (sym (ap is_some (sym q ∙ (e ∙ at_bound most n true t))))))
      (λ t. ltb-false n most t)

-- ---- digits

module _ (c : ℕ) where
  pub figure_digit : 48 ≤ c → c < 58 → Some (c - 48) ≡ if_below 16 (digit_of c)
  unfolding digit_of
  figure_digit a b = simp (le-ltb c 48 a, le-leb c 57 (omega arith), lt-ltb (c - 48) 16 (omega arith))

  pub large_digit : 65 ≤ c → c < 71 → Some (c - 65 + 10) ≡ if_below 16 (digit_of c)
  unfolding digit_of
  large_digit a b =
      let q : c - 65 + 10 ≡ c - 55 = omega arith in
      simp (q, le-ltb c 48 (omega arith), lt-leb c 57 (omega arith), le-ltb c 65 a, le-leb c 70 (omega arith), lt-ltb (c - 55) 16 (omega arith))

  pub small_digit : 97 ≤ c → c < 103 → Some (c - 97 + 10) ≡ if_below 16 (digit_of c)
  unfolding digit_of
  small_digit a b =
      let q : c - 97 + 10 ≡ c - 87 = omega arith in
      simp (q, le-ltb c 48 (omega arith), lt-leb c 57 (omega arith), le-ltb c 65 (omega arith), lt-leb c 70 (omega arith), le-ltb c 97 a, le-leb c 102 (omega arith), lt-ltb (c - 87) 16 (omega arith))

  pub below_figures : c < 48 → None ≡ if_below 16 (digit_of c)
  unfolding digit_of
  below_figures a = simp (lt-ltb c 48 a)

  pub below_large : 58 ≤ c → c < 65 → None ≡ if_below 16 (digit_of c)
  unfolding digit_of
  below_large a b = simp (le-ltb c 48 (omega arith), lt-leb c 57 (omega arith), lt-ltb c 65 b)

  pub below_small : 71 ≤ c → c < 97 → None ≡ if_below 16 (digit_of c)
  unfolding digit_of
  below_small a b = simp (le-ltb c 48 (omega arith), lt-leb c 57 (omega arith), le-ltb c 65 (omega arith), lt-leb c 70 (omega arith), lt-ltb c 97 b)

  pub above_small : 103 ≤ c → None ≡ if_below 16 (digit_of c)
  unfolding digit_of
  above_small a = simp (le-ltb c 48 (omega arith), lt-leb c 57 (omega arith), le-ltb c 65 (omega arith), lt-leb c 70 (omega arith), le-ltb c 97 (omega arith), lt-leb c 102 (omega arith))

-- ---- numbers

pub none_u : (h t u : ℕ) → 16 ≤ u → decimal_of h t u ≡ 256
none_u h t u l = by_test (ltb 9 h) (λ a. rw a) (λ a. by_test (ltb 9 t) (λ b. rw (a, b)) (λ b. rw (a, b, lt-ltb 9 u (omega arith))))

pub none_t : (h t u : ℕ) → 16 ≤ t → decimal_of h t u ≡ 256
none_t h t u l = by_test (ltb 9 h) (λ a. rw a) (λ a. rw (a, lt-ltb 9 t (omega arith)))

pub none_h : (h t u : ℕ) → 16 ≤ h → decimal_of h t u ≡ 256
none_h h t u l = rw (lt-ltb 9 h (omega arith))

-- of a hexadecimal number
pub none_high : (h l : ℕ) → 16 ≤ h → cond (ltb h 16 && ltb l 16) (16 * h + l) 256 ≡ 256
none_high h l a = rw (le-ltb h 16 a)

pub none_low : (h l : ℕ) → 16 ≤ l → cond (ltb h 16 && ltb l 16) (16 * h + l) 256 ≡ 256
none_low h l a = by_test (ltb h 16) (λ e. rw (e, le-ltb l 16 a)) (λ e. rw e)

pub missing : {r : Option ℕ} (n : ℕ) → r ≡ None → n ≡ 256 → r ≡ if_below 256 n
missing n e q = rw (q, e)

module _ {n : ℕ} (b0 b1 b2 b3 : ℕ) where
  pub one : n ≡ 1 → numeral_of n b0 b1 b2 b3 ≡ decimal_of 0 0 (digit_of b0)
  unfolding numeral_of
  one e = rw (eq-eqb n 1 e)

  pub two : (n ≡ 1 → ⊥) → eqb n 2 && not (eqb b0 48) ≡ true → numeral_of n b0 b1 b2 b3 ≡ decimal_of 0 (digit_of b0) (digit_of b1)
  unfolding numeral_of
  two e f = rw (ne_eqb n 1 e, f)

  pub three : (n ≡ 1 → ⊥) → eqb n 2 && not (eqb b0 48) ≡ false → eqb n 3 && not (eqb b0 48) ≡ true
      → numeral_of n b0 b1 b2 b3 ≡ decimal_of (digit_of b0) (digit_of b1) (digit_of b2)
  unfolding numeral_of
  three e f g = rw (ne_eqb n 1 e, f, g)

  pub four : (n ≡ 1 → ⊥) → eqb n 2 && not (eqb b0 48) ≡ false → eqb n 3 && not (eqb b0 48) ≡ false → eqb n 4 && eqb b0 48 && eqb b1 120 ≡ true
      → numeral_of n b0 b1 b2 b3 ≡ cond (ltb (digit_of b2) 16 && ltb (digit_of b3) 16) (16 * digit_of b2 + digit_of b3) 256
  unfolding numeral_of
  four e f g h = rw (ne_eqb n 1 e, f, g, h)

  pub other : (n ≡ 1 → ⊥) → eqb n 2 && not (eqb b0 48) ≡ false → eqb n 3 && not (eqb b0 48) ≡ false → eqb n 4 && eqb b0 48 && eqb b1 120 ≡ false → numeral_of n b0 b1 b2 b3 ≡ 256
  unfolding numeral_of
  other e f g h = rw (ne_eqb n 1 e, f, g, h)

-- a numeral by its digits
module _ {r : Option ℕ} {h t u m : ℕ} where
  pub by_digits : {h' t' u' : ℕ} → h ≡ h' → t ≡ t' → u ≡ u' → m ≡ decimal_of h' t' u' → r ≡ if_below 256 (decimal_of h t u) → r ≡ if_below 256 m
  by_digits a b d e q = rw (e, ← a, ← b, ← d) q

pub by_two : {v w m : ℕ} (h l : ℕ) → (v ≡ h) × (h < 16) → (w ≡ l) × (l < 16) → m ≡ cond (ltb h 16 && ltb l 16) (16 * h + l) 256 → Some (16 * v + w) ≡ if_below 256 m
by_two {v} {w} {m} h l a b e =
    let q : m ≡ 16 * v + w = e ∙ rw (lt-ltb h 16 a.1, lt-ltb l 16 b.1, a.0, b.0) in
    below_some 256 m (sym q) (omega (arith, q, a, b))

-- ---- words

module _ (w : List ℕ) where
  abbrev is_register : Bool
  is_register = eqb (length w) 2 && eqb (get_or w 0 0) 82 && ltb (digit_of (get_or w 1 0)) 4

  abbrev value : ℕ
  value = numeral_of (length w) (get_or w 0 0) (get_or w 1 0) (get_or w 2 0) (get_or w 3 0)

  abbrev is_name : Bool
  is_name = eqb (length w) (word_length true w) && leb 1 (length w) && leb (length w) 12

  at_register : (t : Bool) → is_register ≡ t → register_of (length w) (get_or w 0 0) (get_or w 1 0) ≡ cond t (Some (digit_of (get_or w 1 0))) None
  at_register t e = rw e

  module _ {o : Option ℕ} (e : o ≡ register_of (length w) (get_or w 0 0) (get_or w 1 0)) where
    pub register_told : {r : ℕ} → o ≡ Some r → Register r ≡ operand_of w
    unfolding operand_of
    register_told {r} q =
        by_test is_register
        (λ t. rw t (ap (λ (x : Option ℕ). Register (unwrap_or x 0)) (sym q ∙ (e ∙ at_register true t))))
        (λ t. absurd (no (ap is_some (sym q ∙ (e ∙ at_register false t)))))

    pub register_none : o ≡ None → is_register ≡ false
    register_none q = by_test is_register (λ t. absurd (no (sym (ap is_some (sym q ∙ (e ∙ at_register true t)))))) (λ t. t)

  module _ (t : is_register ≡ false) where
    pub number_is : {v : ℕ} → (v ≡ value) × (value < 256) → Number v ≡ operand_of w
    unfolding operand_of
    number_is h = rw (t, lt-ltb value 256 h.1, h.0)

    pub name_is : 256 ≤ value → is_name ≡ true → Name ≡ operand_of w
    unfolding operand_of
    name_is h e = rw (t, le-ltb value 256 h, e)

    pub other_is : 256 ≤ value → is_name ≡ false → Other ≡ operand_of w
    unfolding operand_of
    other_is h e = rw (t, le-ltb value 256 h, e)
