use mathlib.Core.Path.{sym}
use Rattle.labels.proofs.Names.{label_long, label_told, label_untold}
use Rattle.labels.proofs.Numbered.{some_number, no_number}
use Rattle.labels.proofs.label_size.Goals as goal

pub returns-then-n-gt12 : goal.returns-then-n-gt12
returns-then-n-gt12 c = no_number (sym (label_long _ (rw c.word_size-n.ensures.0 at c.if-n-gt12.true)))

pub returns-then-n-byte_at : goal.returns-then-n-byte_at
returns-then-n-byte_at c =
    let t = label_told c.args.line.now c.word_size-n.ensures.0 (rw (c.byte_at.ensures, c.byte_at-2.ensures, c.word_size-n.ensures.0) at c.if-n-byte_at.true) in
    some_number t.0 t.1

pub returns : goal.returns
returns c = no_number (sym (label_untold c.args.line.now (rw (c.byte_at.ensures, c.byte_at-2.ensures, c.word_size-n.ensures.0) at c.if-n-byte_at.false)))
