-- The tests of 13 to 16 at a call.
use Rattle.std.proofs.Common.{◌+◌, ◌*◌, not, eqb, ◌∙◌, arith}
use Rattle.sheets.proofs.Judged.{broken_first, kept_first}
use Rattle.addresses.proofs.Callees.{entry_there, need_below, call}
use Rattle.addresses.proofs.call_ground.Goals as goal

pub returns-in_err-refuse_if : goal.returns-in_err-refuse_if
returns-in_err-refuse_if c =
    let a = c.args in
    broken_first c.from_residual.result _ (eqb a.a 255) (13 + 256 * a.a) _ c.in_err-refuse_if.ensures c.from_residual.ensures.1
    ∙ call a.sheet.now a.list.now c.requires a.a a.target a.routine a.depth c.word_at-callee.ensures

pub returns-in_err-refuse_if-2 : goal.returns-in_err-refuse_if-2
returns-in_err-refuse_if-2 c =
    let a = c.args in
    let r = c.from_residual-in_err-refuse_if-2 in
    let listed = rw c.is_entry.ensures at c.in_err-refuse_if-2.ensures in
    kept_first (eqb a.a 255) (13 + 256 * a.a) _ (omega arith) c.in_ok-refuse_if.ensures
    (broken_first r.result _ (not (entry_there c.word_at-callee.result a.list.now a.target)) (14 + 256 * a.a) _ listed r.ensures.1)
    ∙ call a.sheet.now a.list.now c.requires a.a a.target a.routine a.depth c.word_at-callee.ensures

pub returns-in_err-refuse_if-3 : goal.returns-in_err-refuse_if-3
returns-in_err-refuse_if-3 c =
    let a = c.args in
    let r = c.from_residual-in_err-refuse_if-3 in
    let listed = rw c.is_entry.ensures at c.in_ok-refuse_if-2.ensures in
    let needed = rw (c.from.ensures, c.need_of-2.ensures, c.from-kept.ensures, c.from-need.ensures, c.need_of.ensures) at c.in_err-refuse_if-3.ensures in
    kept_first (eqb a.a 255) (13 + 256 * a.a) _ (omega arith) c.in_ok-refuse_if.ensures
    (kept_first (not (entry_there c.word_at-callee.result a.list.now a.target)) (14 + 256 * a.a) _ (omega arith) listed
    (broken_first r.result _ (need_below c.word_at-callee.result a.list.now a.routine a.depth) (15 + 256 * a.a) _ needed r.ensures.1))
    ∙ call a.sheet.now a.list.now c.requires a.a a.target a.routine a.depth c.word_at-callee.ensures

pub returns : goal.returns
returns c =
    let a = c.args in
    let listed = rw c.is_entry.ensures at c.in_ok-refuse_if-2.ensures in
    let needed = rw (c.from.ensures, c.need_of-2.ensures, c.from-kept.ensures, c.from-need.ensures, c.need_of.ensures) at c.in_ok-refuse_if-3.ensures in
    kept_first (eqb a.a 255) (13 + 256 * a.a) _ (omega arith) c.in_ok-refuse_if.ensures
    (kept_first (not (entry_there c.word_at-callee.result a.list.now a.target)) (14 + 256 * a.a) _ (omega arith) listed
    (kept_first (need_below c.word_at-callee.result a.list.now a.routine a.depth) (15 + 256 * a.a) _ (omega arith) needed
    (rw (c.refuse_if-4.ensures, c.bad_successor-bad_return.ensures, c.wrapping_add_u8.ensures.value, c.from-kept.ensures))))
    ∙ call a.sheet.now a.list.now c.requires a.a a.target a.routine a.depth c.word_at-callee.ensures
