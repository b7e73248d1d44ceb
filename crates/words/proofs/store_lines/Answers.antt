-- A line a turn; the words of the lines left have room.
use native.Mathlib.Omega.{arith}
use mathlib.Core.Path.{refl}
use Rattle.labels.proofs.Cuts.{given, over}
use Rattle.words.specs.Program.{opcode_of, argument_of}
use Rattle.words.proofs.Lines.{words_start, words_go, storing_starts, storing_goes, storing_ends}
use Rattle.words.proofs.store_lines.Goals as goal

pub loop-line-init : goal.loop-line-init
loop-line-init c =
    let o = c.of-line-items.ensures in
    let a = c.args in
    rw (c.into_iter-line-iterator.ensures.into_iter_gives, o.0, o.1, o.2)
    (refl, omega arith, words_start c.requires.1, storing_starts opcode_of a.text.now a.opcodes.now, storing_starts argument_of a.text.now a.arguments.now)

pub loop-line-preserved : goal.loop-line-preserved
loop-line-preserved c =
    let g = given c.loop-line.line-iterator c.next.new.self c.loop-line.invariant.0 c.in-Some.line c.in-Some.ensures.steps in
    let o = c.store_line-at.ensures in
    let i = c.loop-line.invariant in
    let at = c.loop-line.at in (
      g.3,
      omega (arith, g.4, g.0.later, i.1),
      words_go at g.0 o.next i.2,
      storing_goes at g.0 o.next opcode_of i.3 o.opcodes c.store_line-at.auto.opcodes,
      storing_goes at g.0 o.next argument_of i.4 o.arguments c.store_line-at.auto.arguments,
    )

pub returns : goal.returns
returns c =
    let t = c.args.text.now in
    let none = over c.loop-line.line-iterator c.next.new.self c.loop-line.invariant.0 c.in-None.ensures.steps in
    (storing_ends opcode_of t c.loop-line.invariant.3 none, storing_ends argument_of t c.loop-line.invariant.4 none)
