-- The first demand's way of refusing, for listings and for every other call: rules are judged in order, and the first that is broken is named.
-- Assumes nothing.
use Rattle.std.specs.Prelude.{ℕ, ◌+◌, ◌*◌, ◌≡◌, List, [], ◌∷◌, ◌++◌, Bool, true, false, cond}

-- a rule at a place, and whether it is broken there; the place is 0 for a rule of a call
pub record Check : Type 0 where
  pub number : ℕ
  pub place : ℕ
  pub broken : Bool

abbrev pub check : ℕ → ℕ → Bool → Check
check n p b = record { number = n; place = p; broken = b }

-- 01: "Admission answers 0, or number + 256 × place"; "the lowest number that applies first"
unfoldable pub first_broken : List Check → ℕ
first_broken [] = 0
first_broken (c ∷ cs) = cond c.broken (c.number + 256 * c.place) (first_broken cs)

-- no check of a list is broken
abbrev pub NoneBroken : List Check → Type 0
NoneBroken [] = Unit {0}
NoneBroken (c ∷ cs) = (c.broken ≡ false) × NoneBroken cs

-- the broken check that an answer names: all before it hold
pub record Named (cs : List Check) (answer : ℕ) : Type 0 where
  pub before : List Check
  pub this : Check
  pub after : List Check
  pub split : cs ≡ before ++ (this ∷ after)
  pub hold : NoneBroken before
  pub breaks : this.broken ≡ true
  pub names : answer ≡ this.number + 256 * this.place

-- what keeps every rule is accepted; everything else is refused by the first rule it breaks
pub record FirstViolation (cs : List Check) (answer : ℕ) : Type 0 where
  pub accepts : NoneBroken cs → answer ≡ 0
  pub refuses : (NoneBroken cs → ⊥) → Named cs answer
