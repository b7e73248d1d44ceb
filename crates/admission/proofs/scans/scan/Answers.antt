-- Whatever checks the judge answers by: the places below the counter passed.
use Rattle.std.proofs.Common.{Ok, Err, ◌∙◌, arith}
use Rattle.rules.proofs.Scanning.{scan_hit, scan_pass, scan_end}
use Rattle.sheets.proofs.Judged.{refused, kept, passed_on}
use Rattle.admission.proofs.scans.scan.Goals as goal

pub returns-in_err-judge : goal.returns-in_err-judge
returns-in_err-judge g c = λ f j.
    let k = c.in_err-judge.field-0.0 in
    passed_on c.from_residual.result k c.from_residual.ensures.1
    ∙ scan_hit (c.loop-place.invariant f j) (omega arith) (j c.loop-place.place (Err k) (omega arith) c.in_err-judge.ensures) (refused k)

pub loop-place-preserved : goal.loop-place-preserved
loop-place-preserved g c = λ f j.
    scan_pass (c.loop-place.invariant f j) (omega arith) (j c.loop-place.place (Ok tt) (omega arith) c.in_ok-judge.ensures) kept

pub returns : goal.returns
returns g c = λ f j. kept ∙ scan_end (c.loop-place.invariant f j) (omega arith)
