-- The tests of 13 and 16 at the next word.
use Rattle.std.proofs.Common.{◌+◌, ◌*◌, eqb, ◌∙◌, arith}
use Rattle.sheets.proofs.Judged.{broken_first, kept_first}
use Rattle.addresses.proofs.ClassGrounds.{next_word}
use Rattle.addresses.proofs.next_word_ground.Goals as goal

pub returns-in_err-refuse_if : goal.returns-in_err-refuse_if
returns-in_err-refuse_if c =
    let a = c.args in
    broken_first c.from_residual.result _ (eqb a.a 255) (13 + 256 * a.a) _ c.in_err-refuse_if.ensures c.from_residual.ensures.1
    ∙ next_word a.sheet.now a.a a.routine a.depth a.mark

pub returns : goal.returns
returns c =
    let a = c.args in
    kept_first (eqb a.a 255) (13 + 256 * a.a) _ (omega arith) c.in_ok-refuse_if.ensures
    (rw (c.refuse_if-2.ensures, c.bad_successor-bad.ensures, c.wrapping_add_u8.ensures.value))
    ∙ next_word a.sheet.now a.a a.routine a.depth a.mark
