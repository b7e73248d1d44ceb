-- The rules at an address in the parts that the code judges: without the banks, by the class of the instruction.
-- Assumes nothing.
use Rattle.std.specs.Prelude.{◌≡◌, ℕ, ◌<◌, Bool, false, List, [], ◌∷◌}
use Rattle.isa.specs.declared.Class.{Class}
use Rattle.rules.specs.Grounds.{bad_entry, rules_at}
use Rattle.slices.specs.Checks.{Check}
use Rattle.rules.specs.Sheet.{Listing, listing, routines}

-- a sheet and a routine list, which are all that the rules on words look at
abbrev pub without_banks : List ℕ → List ℕ → Listing
without_banks s l = listing [] [] s l

-- 7 holds of every routine
abbrev pub EntriesFit : Listing → Type 0
EntriesFit L = (r : ℕ) → r < routines L → bad_entry L r ≡ false

abbrev pub after_first : List Check → List Check
after_first [] = []
after_first (c ∷ cs) = cs

-- 9 to 16
abbrev pub class_checks : Listing → (a : ℕ) → Class → (r d : ℕ) → Bool → List Check
class_checks L a k r d v = after_first (rules_at L a k r d v)
