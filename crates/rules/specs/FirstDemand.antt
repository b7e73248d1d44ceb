-- THE FIRST DEMAND, of a listing: one that keeps every rule is accepted, whoever drew its sheet; every other is refused by the first rule it
-- breaks, with its place.
-- Assumes nothing.
use Rattle.std.specs.Prelude.{ℕ}
use Rattle.slices.specs.Checks.{FirstViolation}
use Rattle.rules.specs.Grounds.{checks}
use Rattle.rules.specs.Sheet.{Listing}

abbrev pub FirstDemand : Listing → ℕ → Type 0
FirstDemand L answer = FirstViolation (checks L) answer
