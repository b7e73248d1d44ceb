-- Searches over the lines: for the first that passes a test, and for the first that gives a name; and that a line repeats a label where the first
-- line that gives it is another.
-- Assumes nothing.
use Prim.Native.Nat.{ℕ, zero, suc, ◌+◌, ◌-◌, ◌≤◌, ◌<◌}
use native.Mathlib.Omega.{arith}
use mathlib.Core.Path.{◌≡◌, refl, sym, ap, ◌∙◌}
use mathlib.Core.Bool.{Bool, true, false, cond, not}
use mathlib.Core.List.{List, [], ◌∷◌}
use lib.Dec.{eqb}
use lib.ListN.{length, get_or, take, drop}
use borrow.Author.Tests.{eq-eqb, ne_eqb, eqb-false}
use Rattle.slices.proofs.Bools.{by_test}
use Rattle.std.specs.Prelude.{Option, Some, None}
use Rattle.reading.specs.declared.Fit.{Fit}
use Rattle.labels.specs.Lines.{lines_of, label_size, label_of, line_of, name_in, name_of}
use Rattle.labels.specs.Labels.{same, given_at, repeats, misses}
use Rattle.labels.specs.internal.Search.{first_line, IsLine}
use Rattle.labels.specs.internal.Turns.{Turn}
use Rattle.labels.proofs.Names.{label_length}
use Rattle.labels.proofs.Cuts.{AtLine, line_starts, line_goes}

first_one : (f : List ℕ → ℕ → Bool) (l : List ℕ) (ls : List (List ℕ)) (k : ℕ) → first_line f (l ∷ ls) k ≡ cond (f l k) k (first_line f ls (k + 1))
unfolding first_line
first_one f l ls k = refl

first_none : (f : List ℕ → ℕ → Bool) (k : ℕ) → first_line f [] k ≡ 0
unfolding first_line
first_none f k = refl

-- the lines before line k don't pass the test
pub record Searching (f : List ℕ → ℕ → Bool) (t : List ℕ) (at k : ℕ) : Type 0 where
  pub line : AtLine t at k
  pub left : first_line f (lines_of t) 1 ≡ first_line f (lines_of (drop at t)) k

pub search_starts : {f : List ℕ → ℕ → Bool} {t : List ℕ} → Searching f t 0 1
search_starts = record { line = line_starts; left = refl }

module _ {f : List ℕ → ℕ → Bool} {t : List ℕ} {at k : ℕ} (r : Searching f t at k) where
  pub search_ends : lines_of (drop at t) ≡ [] → 0 ≡ first_line f (lines_of t) 1
  search_ends h = sym (r.left ∙ ap (λ (ls : List (List ℕ)). first_line f ls k) h ∙ first_none f k)

  module _ {l : List ℕ} {a : ℕ} (n : Turn t at l a) where
    pub search_hits : f l k ≡ true → k ≡ first_line f (lines_of t) 1
    search_hits z = sym (r.left ∙ (rw n.first (first_one f l _ k ∙ rw z)))

    pub search_goes : f l k ≡ false → Searching f t a (k + 1)
    search_goes z = record { line = line_goes r.line n; left = r.left ∙ (rw n.first (first_one f l _ k ∙ rw z)) }

pub given_one : (n l : List ℕ) (ls : List (List ℕ)) (k : ℕ) → given_at n (l ∷ ls) k ≡ cond (same (label_of l) n) k (given_at n ls (k + 1))
unfolding given_at
given_one n l ls k = refl

pub given_none : (n : List ℕ) (k : ℕ) → given_at n [] k ≡ 0
unfolding given_at
given_none n k = refl

-- the lines before line k, which begins at a place, don't give the name
pub record Looking (n t : List ℕ) (at k : ℕ) : Type 0 where
  pub within : at ≤ length t
  pub few : k ≤ at + 1
  pub left : given_at n (lines_of t) 1 ≡ given_at n (lines_of (drop at t)) k

module _ {n t : List ℕ} {at k : ℕ} (r : Looking n t at k) where
  pub look_ends : lines_of (drop at t) ≡ [] → 0 ≡ given_at n (lines_of t) 1
  look_ends h = sym (r.left ∙ ap (λ (ls : List (List ℕ)). given_at n ls k) h ∙ given_none n k)

  module _ {l : List ℕ} {a : ℕ} (m : Turn t at l a) where
    pub look_hits : same (label_of l) n ≡ true → k ≡ given_at n (lines_of t) 1
    look_hits z = sym (r.left ∙ (rw m.first (given_one n l _ k ∙ rw z)))

    pub look_goes : same (label_of l) n ≡ false → Looking n t a (k + 1)
    look_goes z =
        record { within = m.within; few = omega (arith, r.few, m.later); left = r.left ∙ (rw m.first (given_one n l _ k ∙ rw z)) }

-- the first of n lines that gives a name, counted from j, is before line j + n
given_before : (name : List ℕ) (ls : List (List ℕ)) (n j : ℕ) → 1 ≤ j → given_at name (take n ls) j < j + n
unfolding given_at
given_before name [] zero j h = omega arith
given_before name [] (suc n) j h = omega arith
given_before name (l ∷ ls) zero j h = omega arith
given_before name (l ∷ ls) (suc n) j h =
    by_test (same (label_of l) name) (λ e. rw e (omega arith)) (λ e. rw e (omega (arith, given_before name ls n (j + 1) (omega arith))))

-- where line j + n gives a name, it is the first that does, or one before it is
given_there : (name : List ℕ) (ls : List (List ℕ)) (n j : ℕ) → 1 ≤ j → n < length ls → same (label_of (get_or ls n [])) name ≡ true
    → given_at name ls j ≡ cond (eqb (given_at name (take n ls) j) 0) (j + n) (given_at name (take n ls) j)
unfolding given_at
given_there name [] n j h g e = absurd (omega arith)
given_there name (l ∷ ls) zero j h g e = rw e (omega arith)
given_there name (l ∷ ls) (suc n) j h g e =
    by_test (same (label_of l) name)
    (λ t. rw (t, ne_eqb j 0 (omega arith)))
    (λ t. let m : j + suc n ≡ j + 1 + n = omega arith in rw (t, m) (given_there name ls n (j + 1) (omega arith) (omega arith) e))

-- a name is the same as itself
same_self : (l : List ℕ) → same l l ≡ true
same_self [] = refl
same_self (c ∷ l) = rw (eq-eqb c c refl) (same_self l)

-- some line gives the label of line k
pub label_given : (t l : List ℕ) (k : ℕ) → IsLine t k l → (label_size l ≡ 0 → ⊥) → given_at (label_of l) (lines_of t) 1 ≡ 0 → ⊥
label_given t l k r some z =
    let n = label_of l in
    let G = given_at n (take (k - 1) (lines_of t)) 1 in
    let there : given_at n (lines_of t) 1 ≡ cond (eqb G 0) (1 + (k - 1)) G =
    given_there n (lines_of t) (k - 1) 1 (omega arith) (omega (arith, r.from, r.within)) (rw r.is (same_self n)) in
    by_test (eqb G 0) (λ e. omega (arith, z, rw e at there)) (λ e. eqb-false G 0 e (sym (rw e at there) ∙ z))

-- line k repeats its label where the first line that gives it is not line k
pub repeats_is : (t l : List ℕ) (k g : ℕ) → IsLine t k l → (label_size l ≡ 0 → ⊥) → g ≡ given_at (label_of l) (lines_of t) 1
    → not (eqb g k) ≡ repeats (take (k - 1) (lines_of t)) l
repeats_is t l k g r some e =
    let n = label_of l in
    let G = given_at n (take (k - 1) (lines_of t)) 1 in
    let low : G < 1 + (k - 1) = given_before n (lines_of t) (k - 1) 1 (omega arith) in
    let there : given_at n (lines_of t) 1 ≡ cond (eqb G 0) (1 + (k - 1)) G =
    given_there n (lines_of t) (k - 1) 1 (omega arith) (omega (arith, r.from, r.within)) (rw r.is (same_self n)) in
    rw (ne_eqb (label_size l) 0 some) (by_test (eqb G 0)
    (λ z. rw z (let q : g ≡ k = e ∙ there ∙ rw z (omega (arith, r.from)) in rw (eq-eqb g k q)))
    (λ z. rw z (let q : g ≡ G = e ∙ there ∙ rw z in rw (ne_eqb g k (λ p. omega (arith, r.from))))))

pub unlabelled_first : (l : List ℕ) (before : List (List ℕ)) → label_size l ≡ 0 → false ≡ repeats before l
unlabelled_first l before z = rw z

-- a label is not empty
pub label_some : {m : List ℕ} (l : List ℕ) → (label_size l ≡ 0 → ⊥) → m ≡ label_of l → 0 < length m
label_some l some e = rw e (let f = label_length l in omega (arith, f, some))

-- the name that a line uses
module _ (l : List ℕ) (all : List (List ℕ)) {m : Option Fit} (e : m ≡ line_of l) where
  pub misfit_nameless : m ≡ None → false ≡ misses all l
  unfolding name_of
  misfit_nameless q = rw (← e, q)

  module _ {f : Fit} {name : List ℕ} (q : m ≡ Some f) (n : name ≡ take f.places.size (drop f.places.from l)) where
    name_is : name_of l ≡ name
    unfolding name_of
    name_is = ap (λ (x : Option Fit). name_in x l) (sym e ∙ q) ∙ sym n

    pub nameless : length name ≡ 0 → false ≡ misses all l
    nameless z = rw (name_is, z)

    pub named : {g : ℕ} → (length name ≡ 0 → ⊥) → g ≡ given_at name all 1 → eqb g 0 ≡ misses all l
    named z w = rw (name_is, ne_eqb (length name) 0 z, w)
