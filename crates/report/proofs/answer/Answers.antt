-- A refusal's line, or the two lines one behind the other; there is room for either.
use native.Mathlib.Omega.{arith}
use Rattle.report.proofs.DeskTexts.{refused_text, admitted_text, ends, answered}
use Rattle.pages.proofs.Pages.{texts_written, written_within}
use Rattle.report.proofs.answer.Goals as goal

pub returns-then-number-ne0 : goal.returns-then-number-ne0
returns-then-number-ne0 c =
    let input = c.args.input.now in
    let o = c.part-opcodes.ensures in
    let g = c.part-arguments.ensures in
    let s = c.part-sheet.ensures in
    let l = c.part-list.ensures in
    let a = c.cesca_admit-number.ensures in
    answered (written_within (omega arith) c.refused_line.ensures)
    (refused_text input _ _ _ _ o g s l _ a c.if-number-ne0.true) (ends input _ _ _ _ o g s l _ a)

pub returns : goal.returns
returns c =
    let input = c.args.input.now in
    let o = c.part-opcodes.ensures in
    let g = c.part-arguments.ensures in
    let s = c.part-sheet.ensures in
    let l = c.part-list.ensures in
    let a = c.cesca_admit-number.ensures in
    answered
    (texts_written c.admitted_line-next.ensures c.run_program.ensures)
    (admitted_text input _ _ _ _ o g s l _ a c.if-number-ne0.false _ c.byte_at.ensures)
    (ends input _ _ _ _ o g s l _ a)
