-- What 02 [3] says of the page's lines: some of the addresses, each once, in an order. What a strict total order is, and what their list is.
-- Assumes nothing.
use Rattle.std.specs.Prelude.{ℕ, ◌<◌, ◌≡◌, Bool, true, false, List, [], ◌∷◌, ◌⊎◌}
use Rattle.slices.specs.Sizes.{bank_size}

pub record StrictOrder (before : ℕ → ℕ → Bool) : Type 0 where
  pub irreflexive : (a : ℕ) → before a a ≡ false
  pub transitive : (a b c : ℕ) → before a b ≡ true → before b c ≡ true → before a c ≡ true
  pub total : (a b : ℕ) → (a ≡ b → ⊥) → (before a b ≡ true) ⊎ (before b a ≡ true)

abbrev pub In : ℕ → List ℕ → Type 0
In a [] = ⊥
In a (x ∷ l) = (a ≡ x) ⊎ In a l

-- a stands before each of a list
abbrev pub Ahead : (ℕ → ℕ → Bool) → ℕ → List ℕ → Type 0
Ahead before a [] = Unit {0}
Ahead before a (x ∷ l) = (before a x ≡ true) × Ahead before a l

-- each stands before all behind it
abbrev pub Sorted : (ℕ → ℕ → Bool) → List ℕ → Type 0
Sorted before [] = Unit {0}
Sorted before (x ∷ l) = Ahead before x l × Sorted before l

-- none stands there twice
abbrev pub Distinct : List ℕ → Type 0
Distinct [] = Unit {0}
Distinct (x ∷ l) = (In x l → ⊥) × Distinct l

-- exactly the wanted addresses, each once, in the order
pub record Ranking (before : ℕ → ℕ → Bool) (wanted : ℕ → Bool) (l : List ℕ) : Type 0 where
  pub sorted : Sorted before l
  pub once : Distinct l
  pub only : (a : ℕ) → In a l → (a < bank_size) × (wanted a ≡ true)
  pub all : (a : ℕ) → a < bank_size → wanted a ≡ true → In a l
