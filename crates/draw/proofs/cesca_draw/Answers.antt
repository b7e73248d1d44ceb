-- Sizes first; then the draft is judged, and copied where it is a drawing.
use native.Mathlib.Omega.{arith}
use Rattle.sheets.proofs.Judged.{length_number, length_named, unbroken}
use Rattle.drawings.specs.Drawn.{lent, size_fault}
use Rattle.draw.proofs.Outcomes.{sheet_fits, list_fits, size_refused, none_drawn, all_drawn}
use Rattle.draw.proofs.cesca_draw.Goals as goal

pub returns-in-Err : goal.returns-in-Err
unfolding size_fault
returns-in-Err c =
    let C = lent c.args.opcodes.now c.args.arguments.now c.args.sheet.now c.args.list.now in
    let e = rw c.in-Err.is at c.buffer_sizes.ensures in
    size_refused C _ (length_number c.in-Err.rule c.from.ensures e) (length_named c.in-Err.rule c.from.ensures)

pub returns-in_default-admitted : goal.returns-in_default-admitted
unfolding size_fault
returns-in_default-admitted c =
    let C = lent c.args.opcodes.now c.args.arguments.now c.args.sheet.now c.args.list.now in
    none_drawn C c.buffer_sizes.ensures (unbroken _ c.in_default.not-Err) c.admitted.ensures c.in_default-admitted.is

pub copy_from_slice-requires : goal.copy_from_slice-requires
unfolding size_fault
copy_from_slice-requires c =
    let C = lent c.args.opcodes.now c.args.arguments.now c.args.sheet.now c.args.list.now in
    let e = sheet_fits C c.buffer_sizes.ensures (unbroken _ c.in_default.not-Err) c.draft-drafted.auto.sheet in omega arith

pub copy_from_slice-requires-2 : goal.copy_from_slice-requires-2
unfolding size_fault
copy_from_slice-requires-2 c =
    let C = lent c.args.opcodes.now c.args.arguments.now c.args.sheet.now c.args.list.now in
    let e = list_fits C c.buffer_sizes.ensures (unbroken _ c.in_default.not-Err) c.draft-drafted.auto.list in omega arith

pub overflow_cast-result : goal.overflow_cast-result
overflow_cast-result c = let a = c.admitted.ensures.accepts c.in-Some.n c.in-Some.is in omega (arith, a.few)

pub returns : goal.returns
unfolding size_fault
returns c =
    let C = lent c.args.opcodes.now c.args.arguments.now c.args.sheet.now c.args.list.now in
    all_drawn C c.buffer_sizes.ensures (unbroken _ c.in_default.not-Err) (c.admitted.ensures.accepts c.in-Some.n c.in-Some.is) c.copy_from_slice.ensures.after c.copy_from_slice-2.ensures.after
