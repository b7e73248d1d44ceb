-- What stands at a place of a list.
-- Assumes nothing.
use mathlib.Core.Path.{◌≡◌, refl, ap, ◌∙◌}
use mathlib.Core.List.{List, [], ◌∷◌, ◌++◌}
use Prim.Native.Nat.{ℕ, zero, suc, ◌≤◌, ◌<◌}
use native.Mathlib.Nat.{le_of_suc-le-suc, not-suc-le-zero}
use native.Mathlib.Omega.{arith}
use lib.ListN.{length, get_or, set, replicate}
use Rattle.slices.specs.Lists.{mapped}

pub get_d_mapped : {A B : Type 0} (f : A → B) (l : List A) (n : ℕ) (d : A) → f (get_or l n d) ≡ get_or (mapped f l) n (f d)
get_d_mapped f [] n d = refl
get_d_mapped f (x ∷ l) zero d = refl
get_d_mapped f (x ∷ l) (suc n) d = get_d_mapped f l n d

-- what stands at a place of a list is no default
get_d_there : {A : Type 0} (l : List A) (i : ℕ) (d d' : A) → i < length l → get_or l i d ≡ get_or l i d'
get_d_there [] i d d' h = absurd (not-suc-le-zero h)
get_d_there (x ∷ l) zero d d' h = refl
get_d_there (x ∷ l) (suc i) d d' h = get_d_there l i d d' (le_of_suc-le-suc h)

pub length_mapped : {A B : Type 0} (f : A → B) (l : List A) → length (mapped f l) ≡ length l
length_mapped f [] = refl
length_mapped f (x ∷ l) = ap suc (length_mapped f l)

-- a place read, whatever the defaults
pub place_read : {A B : Type 0} (f : A → B) (l : List A) (i : ℕ) (d : A) (d' : B) → i < length l → f (get_or l i d) ≡ get_or (mapped f l) i d'
place_read f l i d d' h =
    let e : length (mapped f l) ≡ length l = length_mapped f l in
    get_d_mapped f l i d ∙ get_d_there (mapped f l) i (f d) d' (omega arith)

-- and a place changed
pub mapped_set : {A B : Type 0} (f : A → B) (l : List A) (i : ℕ) (y : A) → mapped f (set l i y) ≡ set (mapped f l) i (f y)
mapped_set f [] i y = refl
mapped_set f (x ∷ l) zero y = refl
mapped_set f (x ∷ l) (suc i) y = ap {B = List _} (λ t. f x ∷ t) (mapped_set f l i y)

-- a list whose last element is also its default: that element stands at its place and past it
pub get_d_last : {A : Type 0} (l : List A) (n : ℕ) (d : A) → length l ≤ n → get_or (l ++ (d ∷ [])) n d ≡ d
get_d_last [] zero d h = refl
get_d_last [] (suc n) d h = refl
get_d_last (x ∷ l) zero d h = absurd (not-suc-le-zero h)
get_d_last (x ∷ l) (suc n) d h = get_d_last l n d (le_of_suc-le-suc h)

-- a list of zeros reads 0 at every place, and past its end
pub zeros : (n i : ℕ) → ◌≡◌ {A = ℕ} (get_or (replicate n 0) i 0) 0
zeros zero i = refl
zeros (suc n) zero = refl
zeros (suc n) (suc i) = zeros n i
