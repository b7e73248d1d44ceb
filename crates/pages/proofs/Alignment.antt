-- Two bytes, and the two loops behind a number at the right of its columns: its digits counted, and the spaces before them.
-- Assumes nothing.
use mathlib.Core.Path.{◌≡◌, refl, sym, ap, ◌∙◌}
use mathlib.Core.List.{List, [], ◌∷◌}
use Prim.Native.Nat.{ℕ, suc, ◌+◌, ◌-◌, ◌/◌, ◌<◌, ◌≤◌}
use native.Mathlib.Omega.{arith}
use lib.ListN.{length, replicate, length-append}
use Rattle.pages.specs.Columns.{right_aligned}
use Rattle.pages.specs.Page.{Page, put_of, write_of}
use Rattle.pages.specs.Text.{decimal}
use Rattle.pages.proofs.Decimal.{one_digit, more_digits, decimal_short}
use Rattle.pages.proofs.Pages.{write_append}

pub two_bytes : {x y x' y' : ℕ} (p : Page) {q r : Page} → x ≡ x' → y ≡ y' → q ≡ put_of x p → r ≡ put_of y q → r ≡ write_of (x' ∷ y' ∷ []) p
unfolding write_of
two_bytes {x} {y} p s t e h = rw (← s, ← t) (h ∙ ap (put_of y) e)

-- ---- digits counted

-- the digits of `rest` and those counted before it are n's; the last of `rest` is counted
pub record Counting (n count rest : ℕ) : Type 0 where
  pub few : rest ≤ n
  pub sum : count + length (decimal rest) ≡ length (decimal n) + 1

pub count_starts : (n : ℕ) → Counting n 1 n
count_starts n = record { few = omega arith; sum = omega arith }

one_less : (n : ℕ) → 10 ≤ n → length (decimal n) ≡ length (decimal (n / 10)) + 1
one_less n h = rw (more_digits n h) (length-append (decimal (n / 10)) _)

module _ {n count rest : ℕ} (g : Counting n count rest) where
  pub count_goes : 10 ≤ rest → Counting n (count + 1) (rest / 10)
  count_goes h = record { few = omega (arith, g.few); sum = omega (arith, g.sum, one_less rest h) }

  -- a number of 32 bits has ten digits at most
  pub count_fits : n < 4294967296 → 10 ≤ rest → count ≤ 10
  count_fits l h = omega (arith, g.sum, one_less rest h, decimal_short n l)

  pub count_ends : rest < 10 → count ≡ length (decimal n)
  count_ends h = let e : length (decimal rest) ≡ 1 = ap length (one_digit rest h) in omega (arith, g.sum)

-- ---- spaces before a text

-- the spaces from here up to the width, and the text behind them, leave the page of the whole
pub record Aligning (width : ℕ) (t : List ℕ) (p₀ : Page) (column : ℕ) (p : Page) : Type 0 where
  pub room : length p.bytes ≡ length p₀.bytes
  pub left : write_of (replicate (width - column) 32) p ≡ write_of (replicate (width - length t) 32) p₀

pub align_starts : (width : ℕ) (t : List ℕ) (p : Page) {n : ℕ} → n ≡ length t → Aligning width t p n p
align_starts width t p e = record { room = refl; left = rw e }

module _ {width : ℕ} {t : List ℕ} {p₀ : Page} {column : ℕ} {p : Page} (g : Aligning width t p₀ column p) where
  pub align_goes : {q : Page} → column < width → q ≡ put_of 32 p → length q.bytes ≡ length p.bytes → Aligning width t p₀ (column + 1) q
  unfolding write_of
  align_goes {q} h e r =
      let n : width - column ≡ suc (width - (column + 1)) = omega arith in
      record {
        room = r ∙ g.room;
        left =
            ap (write_of (replicate (width - (column + 1)) 32)) e
            ∙ ap (λ (j : ℕ). write_of (replicate j 32) p) (sym n)
            ∙ g.left;
      }

  pub align_ends : {q : Page} → width ≤ column → q ≡ write_of t p → q ≡ write_of (right_aligned width t) p₀
  unfolding right_aligned write_of
  align_ends h e =
      let n : width - column ≡ 0 = omega arith in
      let here : p ≡ write_of (replicate (width - length t) 32) p₀ = ap (λ (j : ℕ). write_of (replicate j 32) p) (sym n) ∙ g.left in
      e ∙ ap (write_of t) here ∙ sym (write_append (replicate (width - length t) 32) t p₀)
