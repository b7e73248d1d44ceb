-- Admission's answer: 0 exactly if no rule is broken, and else number and place of the first broken rule in checking order, before which all
-- hold.
-- Assumes nothing.
use Rattle.slices.proofs.Checks.{first_violation}
use Rattle.rules.specs.FirstDemand.{FirstDemand}
use Rattle.rules.specs.Grounds.{admit_by, checks, admit_of}
use Rattle.rules.specs.Sheet.{Listing}
use Rattle.rules.proofs.AdmittedRules.{numbered_checks}

pub first_demand : (L : Listing) → FirstDemand L (admit_of L)
unfolding admit_by
first_demand L = first_violation (checks L) (numbered_checks L)
