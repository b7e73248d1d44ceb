-- The wanted addresses one behind another: each time the first of those behind the last one.
-- Assumes nothing.
use Rattle.std.specs.Prelude.{ℕ, zero, suc, Bool, cond, ◌&&◌, ◌||◌, List, [], ◌∷◌, eqb, ltb, Option, Some, None}
use Rattle.slices.specs.Sizes.{bank_size}
use Rattle.ranking.specs.Busier.{is_executed, precedes, busier}
use Rattle.ranking.specs.declared.AddressCount.{AddressCount}

-- what is no address stands for none
abbrev pub none : ℕ
none = bank_size

-- as an answer
abbrev pub known : ℕ → Option ℕ
known a = cond (eqb a none) None (Some a)

-- a wanted address behind `last`, or any where `last` is none
abbrev pub follows : (ℕ → ℕ → Bool) → (ℕ → Bool) → ℕ → ℕ → Bool
follows before wanted last a = wanted a && (eqb last none || before last a)

-- whether a follows `last`, and stands before the best so far
abbrev pub leads : (ℕ → ℕ → Bool) → (ℕ → Bool) → ℕ → ℕ → ℕ → Bool
leads before wanted last best a = follows before wanted last a && (eqb best none || before a best)

-- the first of those below n that follow `last`
unfoldable pub first_below : (ℕ → ℕ → Bool) → (ℕ → Bool) → ℕ → ℕ → ℕ
first_below before wanted last zero = none
first_below before wanted last (suc n) =
    cond (leads before wanted last (first_below before wanted last n) n) n (first_below before wanted last n)

abbrev pub listed : ℕ → List ℕ → List ℕ
listed a l = cond (eqb a none) [] (a ∷ l)

-- those that follow `last`, n of them at most
unfoldable pub list_after : (ℕ → ℕ → Bool) → (ℕ → Bool) → ℕ → ℕ → List ℕ
list_after before wanted zero last = []
list_after before wanted (suc n) last =
    listed (first_below before wanted last bank_size) (list_after before wanted n (first_below before wanted last bank_size))

-- all of the executed ones
unfoldable pub ranked_by : List ℕ → List ℕ
ranked_by counters = list_after (busier counters) (is_executed counters) bank_size none

-- ---- as the code goes on, from address to address

-- `next` executed, is behind `last`, and precedes the best so far; none, with the count 0, is preceded by every executed address
abbrev pub takes_lead : AddressCount → AddressCount → AddressCount → Bool
takes_lead last best next = (ltb 0 next.count && (eqb last.address none || precedes last next)) && precedes next best

abbrev pub leader_of : AddressCount → AddressCount → AddressCount → AddressCount
leader_of last best next = cond (takes_lead last best next) next best
