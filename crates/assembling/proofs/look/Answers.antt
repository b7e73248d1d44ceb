-- 24, then 25, then 26, by what the three looks at the text tell.
use Rattle.labels.proofs.Numbered.{number_told, none_told, none_there}
use Rattle.assembling.proofs.Faults.{bad_looked, line_refused, fault_looked, long_looked, good_looked}
use Rattle.assembling.proofs.look.Goals as goal

pub returns-in_err-count : goal.returns-in_err-count
returns-in_err-count c = line_refused _ _ _ _ c.from_residual.ensures.1 (bad_looked c.in_err-count.ensures.0 c.in_err-count.ensures.1)

pub returns-in-Some : goal.returns-in-Some
returns-in-Some c = let s = number_told c.label_fault.ensures c.in-Some.is in fault_looked c.in_ok-count.ensures s.0 s.1

pub returns-then-count-gt256 : goal.returns-then-count-gt256
returns-then-count-gt256 c = long_looked c.in_ok-count.ensures (none_told c.label_fault.ensures (none_there _ c.in_default.not-Some)) c.if-count-gt256.true

pub returns : goal.returns
returns c = good_looked c.in_ok-count.ensures (none_told c.label_fault.ensures (none_there _ c.in_default.not-Some)) c.if-count-gt256.false c.index.ensures
