-- Whatever checks the judge answers by: the places below the counter passed.
use Rattle.std.proofs.Common.{ℕ, List}
use Rattle.rules.proofs.Scanning.{Scanning}
use Rattle.slices.specs.Checks.{Check}
use Rattle.admission.specs.internal.Stages.{Judges}
use Rattle.admission.proofs.scans.scan.Given as goal

abbrev pub invariant-loop-place : goal.invariant-loop-place
invariant-loop-place g l = (f : ℕ → List Check) → Judges (goal.F-post g l.judge) f l.n → Scanning f l.n l.place
