-- An address that is not reached has a word of 0; of another the number is read from the table.
use Prim.Native.Nat.{ℕ}
use mathlib.Core.Path.{ap, ap₂, ◌∙◌}
use Rattle.drawings.specs.declared.Cell.{Cell}
use Rattle.drawings.specs.internal.Cells.{seen, depth_in}
use Rattle.drawings.specs.internal.Drafts.{low_byte, high_byte}
use Rattle.drafting.proofs.SheetBytes.{number_read, number_low, high_reached}
use Rattle.drafting.proofs.sheet_word.Goals as goal

pub returns-then-w-eq0 : goal.returns-then-w-eq0
unfolding low_byte high_byte seen depth_in
returns-then-w-eq0 c = rw (← c.word_of-w.ensures, c.if-w-eq0.true)

pub high_byte-requires : goal.high_byte-requires
unfolding low_byte high_byte seen depth_in
high_byte-requires c = number_low c.args.cells.now c.word_of-w.result c.requires (ap (λ (x : Cell). x.entry) c.unpack-c.ensures) c.load-number.ensures

pub returns : goal.returns
unfolding low_byte high_byte seen depth_in
returns c = let ws = c.args.cells.now in let w = c.word_of-w.result in ap₂ (λ (x y : ℕ). (x, y)) (ap (λ (x : Cell). x.depth) c.unpack-c.ensures ∙ ap depth_in c.word_of-w.ensures) (high_reached ws c.args.a w c.word_of-w.ensures c.if-w-eq0.false (ap (λ (x : Cell). x.mark) c.unpack-c.ensures) (number_read ws w c.requires (ap (λ (x : Cell). x.entry) c.unpack-c.ensures) c.load-number.ensures) c.high_byte.ensures)
