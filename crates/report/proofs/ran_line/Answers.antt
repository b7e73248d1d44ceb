-- The line by the answer's case.
use mathlib.Core.Path.{refl}
use native.Mathlib.Omega.{arith}
use Rattle.pages.specs.Page.{write_of}
use Rattle.report.proofs.ran_line.Goals as goal

pub returns-in-Err : goal.returns-in-Err
unfolding write_of
returns-in-Err c = rw c.in-Err.is (record { left = refl; short = omega arith })
