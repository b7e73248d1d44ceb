-- Facts about every row of the table, each by one test that is computed over the whole of it; and the table as the code holds it, one spelling
-- behind another with dots up to 16.
-- Assumes nothing.
use Prim.Native.Nat.{ℕ, zero, suc, ◌+◌, ◌*◌, ◌/◌, ◌%◌, ◌≤◌, ◌<◌}
use native.Mathlib.Omega.{arith}
use mathlib.Core.Path.{◌≡◌, refl, ◌∙◌}
use mathlib.Core.Bool.{Bool, true, not, ◌&&◌}
use mathlib.Core.List.{List, [], ◌∷◌}
use lib.Dec.{eqb, leb, ltb, eqb→eq}
use lib.ListN.{length, get_or, get_or-eq_default}
use borrow.Author.Tests.{leb-true, eqb-false, not-true, ltb-true, ltb-false}
use Rattle.slices.proofs.Bools.{by_test, both}
use Rattle.spelling.specs.Spellings.{spellings, pattern_of}
use Rattle.spelling.specs.internal.Rows.{pad, flatten, table_bytes}
use Rattle.spelling.proofs.Entries.{at}

module _ {ℓ} {A : Type ℓ} where
  -- a test passes at all entries
  abbrev pub all : (A → Bool) → List A → Bool
  all f [] = true
  all f (x ∷ xs) = f x && all f xs

  -- a test that all entries and the default pass is passed at every place
  pub all_at : (f : A → Bool) (d : A) (xs : List A) → f d ≡ true → all f xs ≡ true → (k : ℕ) → f (get_or xs k d) ≡ true
  all_at f d [] p e k = p
  all_at f d (x ∷ xs) p e zero = (both (f x) (all f xs) e).0
  all_at f d (x ∷ xs) p e (suc k) = all_at f d xs p (both (f x) (all f xs) e).1 k

right : ℕ → ℕ → Bool
right i x = eqb x (get_or (pattern_of (i / 16)) (i % 16) 46)

pub table_at : (k j : ℕ) → k < 90 → j < 16 → get_or table_bytes (16 * k + j) 0 ≡ get_or (pattern_of k) j 46
unfolding table_bytes flatten pad spellings right pattern_of
table_at k j h l =
    let e : (16 * k + j) / 16 ≡ k = omega arith in
    let f : (16 * k + j) % 16 ≡ j = omega arith in
    let t : get_or table_bytes (16 * k + j) 0 ≡ get_or (pattern_of ((16 * k + j) / 16)) ((16 * k + j) % 16) 46
    = eqb→eq _ _ (at right table_bytes tt (16 * k + j) (omega arith)) in
    rw (e, f) at t

pub table_length : length table_bytes ≡ 1440
unfolding table_bytes flatten pad spellings
table_length = refl

-- no spelling is over 16 bytes
pub short : (k : ℕ) → length (pattern_of k) ≤ 16
unfolding pattern_of spellings
short k = leb-true _ _ (all_at (λ s. leb (length s) 16) [] spellings refl refl k)

pub none_past : (k : ℕ) → 90 ≤ k → pattern_of k ≡ []
unfolding pattern_of spellings
none_past k h = get_or-eq_default spellings [] h

-- no spelling has a dot
pub no_dots : (k : ℕ) → all (λ c. not (eqb c 46)) (pattern_of k) ≡ true
unfolding pattern_of spellings
no_dots k = all_at (λ s. all (λ c. not (eqb c 46)) s) [] spellings refl refl k

-- so a dot is read past its end only
pub dot_ends : (p : List ℕ) (j : ℕ) → all (λ c. not (eqb c 46)) p ≡ true → get_or p j 46 ≡ 46 → length p ≤ j
dot_ends [] j e q = omega arith
dot_ends (c ∷ p) zero e q = absurd (eqb-false _ _ (not-true _ (both (not (eqb c 46)) _ e).0) q)
dot_ends (c ∷ p) (suc j) e q = let h : length p ≤ j = dot_ends p j (both (not (eqb c 46)) _ e).1 q in omega arith

pub not_dot : (k j c : ℕ) → c ≡ get_or (pattern_of k) j 46 → (c ≡ 46 → ⊥) → j < length (pattern_of k)
not_dot k j c e q = by_test (ltb j (length (pattern_of k))) (λ t. ltb-true _ _ t)
    (λ t. absurd (q (e ∙ get_or-eq_default (pattern_of k) 46 (omega (arith, ltb-false j (length (pattern_of k)) t)))))
