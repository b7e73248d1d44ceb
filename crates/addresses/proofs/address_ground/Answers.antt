-- 8, and then the rules by class; a word that is not described is passed over.
use Rattle.std.proofs.Common.{◌+◌, ◌*◌, ltb, get_or, refl, sym, ap, ◌∙◌, arith}
use borrow.Author.Tests.{not-true, not-false}
use Rattle.isa.specs.Decode.{decode_of}
use Rattle.isa.specs.Facts.{class_of}
use Rattle.sheets.specs.declared.Word.{Word}
use Rattle.sheets.specs.internal.Words.{word_of}
use Rattle.sheets.proofs.Judged.{kept, broken_first, kept_first}
use Rattle.addresses.proofs.AtAddress.{undescribed_answer, described_answer}
use Rattle.addresses.proofs.address_ground.Goals as goal

pub returns-then-not-w : goal.returns-then-not-w
returns-then-not-w c =
    let a = c.args in
    let e = ap (λ (w : Word). w.described) (sym c.word_at-w.ensures) ∙ not-true _ c.if-not-w.true in
    kept ∙ undescribed_answer a.opcodes.now a.arguments.now a.sheet.now a.list.now a.a e

pub returns-in_err-refuse_if : goal.returns-in_err-refuse_if
returns-in_err-refuse_if c =
    let a = c.args in
    let w = word_of a.sheet.now a.a in
    let e = ap (λ (w : Word). w.described) (sym c.word_at-w.ensures) ∙ not-false _ c.if-not-w.false in
    let deep = rw (c.need_of.ensures, c.word_at-w.ensures) at c.in_err-refuse_if.ensures in
    broken_first c.from_residual.result _ (ltb (get_or a.list.now (2 * w.routine + 1) 0) w.depth) (8 + 256 * a.a) _ deep c.from_residual.ensures.1
    ∙ described_answer a.opcodes.now a.arguments.now a.sheet.now a.list.now a.a (class_of (decode_of (get_or a.opcodes.now a.a 0) (get_or a.arguments.now a.a 0))) e refl

pub returns : goal.returns
returns c =
    let a = c.args in
    let w = word_of a.sheet.now a.a in
    let e = ap (λ (w : Word). w.described) (sym c.word_at-w.ensures) ∙ not-false _ c.if-not-w.false in
    let deep = rw (c.need_of.ensures, c.word_at-w.ensures) at c.in_ok-refuse_if.ensures in
    kept_first (ltb (get_or a.list.now (2 * w.routine + 1) 0) w.depth) (8 + 256 * a.a) _ (omega arith) deep (rw (c.class_ground.ensures, c.word_at-w.ensures))
    ∙ described_answer a.opcodes.now a.arguments.now a.sheet.now a.list.now a.a c.classify-facts.result.0 e
    (rw (c.classify-facts.ensures, c.decode.ensures.table, c.load-2.ensures, c.load.ensures))
