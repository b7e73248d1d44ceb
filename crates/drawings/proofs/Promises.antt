-- The whole promise of a call from its outcome.
-- Assumes nothing.
use native.Mathlib.Omega.{arith}
use Rattle.slices.proofs.Checks.{Numbered, first_violation}
use Rattle.slices.specs.Checks.{FirstViolation}
use Rattle.drawings.specs.Drawn.{Lent, Outcome, size_checks, size_fault, Draws, DrawnAs}
use Rattle.drawings.proofs.OneDrawing.{draws_one}

-- each check of a size has a number
pub numbered : (c : Lent) → Numbered (size_checks c)
numbered c = (omega arith, (omega arith, (omega arith, tt)))

first_size : (c : Lent) → FirstViolation (size_checks c) (size_fault c)
unfolding size_fault
first_size c = first_violation (size_checks c) (numbered c)

pub promised : {c : Lent} {o : Outcome} → Draws c o → DrawnAs c o
promised {c} {o} d = record { draws_it = d; first_size = first_size c; only_one = λ o' d'. draws_one c o o' d d' }
