-- What stands in the columns of a listing, and how long they are.
-- Assumes nothing.
use Prim.Native.Nat.{ℕ, zero, suc, ◌+◌, ◌*◌, ◌/◌, ◌%◌, ◌≤◌, ◌<◌}
use native.Mathlib.Omega.{arith}
use mathlib.Core.Path.{◌≡◌, refl, sym, ap, ◌∙◌}
use mathlib.Core.List.{List}
use lib.ListN.{length, get_or, get_or-eq_default}
use lib.Seq.{ext_get_or}
use lib.Dec.{eqb, ltb}
use borrow.Author.Tests.{eqb-true, eqb-false, ltb-true, ltb-false}
use Rattle.slices.proofs.Bools.{by_test}
use Rattle.files.specs.File.{column, word_column}

pub column_length : (f : ℕ → ℕ) (a n : ℕ) → length (column f a n) ≡ n
unfolding column
column_length f a zero = refl
column_length f a (suc n) = ap suc (column_length f (suc a) n)

pub column_at : (f : ℕ → ℕ) (a n i k : ℕ) → i < n → k ≡ a + i → get_or (column f a n) i 0 ≡ f k
unfolding column
column_at f a zero i k l e = absurd (omega arith)
column_at f a (suc n) zero k l e = let q : a ≡ k = omega arith in ap f q
column_at f a (suc n) (suc i) k l e = column_at f (suc a) n i k (omega arith) (omega arith)

-- also past the column, where f is 0 there
pub column_all : (f : ℕ → ℕ) (n : ℕ) → ((i : ℕ) → n ≤ i → f i ≡ 0) → (i : ℕ) → get_or (column f 0 n) i 0 ≡ f i
column_all f n past i =
    by_test (ltb i n)
    (λ t. column_at f 0 n i i (ltb-true i n t) (omega arith))
    (λ t.
    let b = ltb-false i n t in
    let c = column_length f 0 n in
    let far : length (column f 0 n) ≤ i = omega arith in
    get_or-eq_default (column f 0 n) 0 far ∙ sym (past i b))

pub sheet_length : (f : ℕ → ℕ) (a n : ℕ) → length (word_column f a n) ≡ 2 * n
unfolding word_column
sheet_length f a zero = refl
sheet_length f a (suc n) = let h = sheet_length f (suc a) n in omega arith

pub sheet_low : (f : ℕ → ℕ) (a n i j k : ℕ) → i < n → k ≡ a + i → j ≡ 2 * i → get_or (word_column f a n) j 0 ≡ f k % 256
unfolding word_column
sheet_low f a zero i j k l e d = absurd (omega arith)
sheet_low f a (suc n) zero zero k l e d = let q : a ≡ k = omega arith in ap (λ (x : ℕ). f x % 256) q
sheet_low f a (suc n) zero (suc j) k l e d = absurd (omega arith)
sheet_low f a (suc n) (suc i) zero k l e d = absurd (omega arith)
sheet_low f a (suc n) (suc i) (suc zero) k l e d = absurd (omega arith)
sheet_low f a (suc n) (suc i) (suc (suc j)) k l e d = sheet_low f (suc a) n i j k (omega arith) (omega arith) (omega arith)

pub sheet_high : (f : ℕ → ℕ) (a n i j k : ℕ) → i < n → k ≡ a + i → j ≡ 2 * i + 1 → get_or (word_column f a n) j 0 ≡ f k / 256
unfolding word_column
sheet_high f a zero i j k l e d = absurd (omega arith)
sheet_high f a (suc n) zero zero k l e d = absurd (omega arith)
sheet_high f a (suc n) zero (suc zero) k l e d = let q : a ≡ k = omega arith in ap (λ (x : ℕ). f x / 256) q
sheet_high f a (suc n) zero (suc (suc j)) k l e d = absurd (omega arith)
sheet_high f a (suc n) (suc i) zero k l e d = absurd (omega arith)
sheet_high f a (suc n) (suc i) (suc zero) k l e d = absurd (omega arith)
sheet_high f a (suc n) (suc i) (suc (suc j)) k l e d = sheet_high f (suc a) n i j k (omega arith) (omega arith) (omega arith)

-- a bank is the column of its own bytes
pub column_own : (f : ℕ → ℕ) (n : ℕ) (l : List ℕ) → length l ≡ n → ((a : ℕ) → a < n → f a ≡ get_or l a 0) → column f 0 n ≡ l
column_own f n l e h =
    ext_get_or 0 (column f 0 n) l (column_length f 0 n ∙ sym e)
    (λ i b. let c = column_length f 0 n in column_at f 0 n i i (omega arith) (omega arith) ∙ h i (omega arith))

-- a sheet is the column of its own words
sheet_half : (f : ℕ → ℕ) (n : ℕ) (l : List ℕ) → ((a : ℕ) → a < n → f a % 256 ≡ get_or l (2 * a) 0) → ((a : ℕ) → a < n → f a / 256 ≡ get_or l (2 * a + 1) 0)
    → (i : ℕ) → i < 2 * n → get_or (word_column f 0 n) i 0 ≡ get_or l i 0
sheet_half f n l lo hi i b =
    by_test (eqb (i % 2) 0)
    (λ t.
    let z = eqb-true (i % 2) 0 t in
    let q : 2 * (i / 2) ≡ i = omega arith in
    sheet_low f 0 n (i / 2) i (i / 2) (omega arith) (omega arith) (omega arith) ∙ lo (i / 2) (omega arith) ∙ ap (λ (j : ℕ). get_or l j 0) q)
    (λ t.
    let z = eqb-false (i % 2) 0 t in
    let q : 2 * (i / 2) + 1 ≡ i = omega arith in
    sheet_high f 0 n (i / 2) i (i / 2) (omega arith) (omega arith) (omega arith) ∙ hi (i / 2) (omega arith) ∙ ap (λ (j : ℕ). get_or l j 0) q)

pub sheet_own : (f : ℕ → ℕ) (n : ℕ) (l : List ℕ) → length l ≡ 2 * n → ((a : ℕ) → a < n → f a % 256 ≡ get_or l (2 * a) 0)
    → ((a : ℕ) → a < n → f a / 256 ≡ get_or l (2 * a + 1) 0) → word_column f 0 n ≡ l
sheet_own f n l e lo hi =
    let c = sheet_length f 0 n in
    ext_get_or 0 (word_column f 0 n) l (c ∙ sym e) (λ i b. sheet_half f n l lo hi i (omega arith))
