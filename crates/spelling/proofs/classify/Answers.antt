use Rattle.spelling.proofs.Numerals.{some_told, none_told, register_told, register_none, number_is, name_is, other_is}
use Rattle.spelling.proofs.classify.Goals as goal

pub returns-in-Some : goal.returns-in-Some
returns-in-Some c = register_told c.args.word.now (rw (c.byte_at-b0.ensures, c.byte_at-b1.ensures) at c.register.ensures) c.in-Some.is

pub returns-in-Some-number : goal.returns-in-Some-number
returns-in-Some-number c =
    let w = c.args.word.now in
    let t = register_none w (rw (c.byte_at-b0.ensures, c.byte_at-b1.ensures) at c.register.ensures) c.in_default.is in
    let n = rw (c.byte_at-b0.ensures, c.byte_at-b1.ensures, c.byte_at.ensures, c.byte_at-2.ensures) at c.number.ensures in
    number_is w t (some_told 256 _ n c.in-Some-number.is)

pub returns-then-n-m : goal.returns-then-n-m
returns-then-n-m c =
    let w = c.args.word.now in
    let t = register_none w (rw (c.byte_at-b0.ensures, c.byte_at-b1.ensures) at c.register.ensures) c.in_default.is in
    let n = rw (c.byte_at-b0.ensures, c.byte_at-b1.ensures, c.byte_at.ensures, c.byte_at-2.ensures) at c.number.ensures in
    name_is w t (none_told 256 _ n c.in_default-number.is) (rw c.word_size-m.ensures.0 at c.if-n-m.true)

pub returns : goal.returns
returns c =
    let w = c.args.word.now in
    let t = register_none w (rw (c.byte_at-b0.ensures, c.byte_at-b1.ensures) at c.register.ensures) c.in_default.is in
    let n = rw (c.byte_at-b0.ensures, c.byte_at-b1.ensures, c.byte_at.ensures, c.byte_at-2.ensures) at c.number.ensures in
    other_is w t (none_told 256 _ n c.in_default-number.is) (rw c.word_size-m.ensures.0 at c.if-n-m.false)
