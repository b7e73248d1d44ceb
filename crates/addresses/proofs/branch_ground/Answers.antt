-- The tests of 10, 13 and 16 at a conditional jump.
use Rattle.std.proofs.Common.{◌+◌, ◌*◌, ◌&&◌, not, eqb, ◌∙◌, arith}
use Rattle.sheets.proofs.Judged.{broken_first, kept_first}
use Rattle.addresses.proofs.ClassGrounds.{branch}
use Rattle.addresses.proofs.branch_ground.Goals as goal

pub returns-in_err-refuse_if : goal.returns-in_err-refuse_if
returns-in_err-refuse_if c =
    let a = c.args in
    broken_first c.from_residual.result _ (a.tests && not a.marked) (10 + 256 * a.a) _ c.in_err-refuse_if.ensures c.from_residual.ensures.1
    ∙ branch a.sheet.now a.a a.routine a.depth a.marked a.target a.tests

pub returns-in_err-refuse_if-2 : goal.returns-in_err-refuse_if-2
returns-in_err-refuse_if-2 c =
    let a = c.args in
    let r = c.from_residual-in_err-refuse_if-2 in
    kept_first (a.tests && not a.marked) (10 + 256 * a.a) _ (omega arith) c.in_ok-refuse_if.ensures
    (broken_first r.result _ (eqb a.a 255) (13 + 256 * a.a) _ c.in_err-refuse_if-2.ensures r.ensures.1)
    ∙ branch a.sheet.now a.a a.routine a.depth a.marked a.target a.tests

pub returns : goal.returns
returns c =
    let a = c.args in
    kept_first (a.tests && not a.marked) (10 + 256 * a.a) _ (omega arith) c.in_ok-refuse_if.ensures
    (kept_first (eqb a.a 255) (13 + 256 * a.a) _ (omega arith) c.in_ok-refuse_if-2.ensures
    (rw (c.refuse_if-3.ensures, c.bad_successor-bad_next.ensures, c.wrapping_add_u8.ensures.value, c.bad_successor-bad_target.ensures, c.from-kept.ensures)))
    ∙ branch a.sheet.now a.a a.routine a.depth a.marked a.target a.tests
