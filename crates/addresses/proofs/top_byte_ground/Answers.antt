-- 11, and the tests at the next word.
use Rattle.std.proofs.Common.{◌+◌, ◌*◌, eqb, arith}
use Rattle.sheets.proofs.Judged.{broken_first, kept_first}
use Rattle.addresses.proofs.top_byte_ground.Goals as goal

pub returns-in_err-refuse_if : goal.returns-in_err-refuse_if
returns-in_err-refuse_if c =
    let a = c.args in
    broken_first c.from_residual.result _ (eqb a.depth 0) (11 + 256 * a.a) _ c.in_err-refuse_if.ensures c.from_residual.ensures.1

pub returns : goal.returns
returns c =
    let a = c.args in
    kept_first (eqb a.depth 0) (11 + 256 * a.a) _ (omega arith) c.in_ok-refuse_if.ensures (rw (c.next_word_ground.ensures, c.from.ensures))
