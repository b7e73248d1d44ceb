-- The sheet is filled up to the bytes of the address that the loop has come to.
use Prim.Native.Nat.{◌+◌}
use native.Mathlib.Omega.{arith}
use mathlib.Core.Path.{ap}
use Rattle.drafting.proofs.SheetBytes.{sheet_start, sheet_next, sheet_end}
use Rattle.drafting.proofs.write_sheet.Goals as goal

pub loop-a-init : goal.loop-a-init
loop-a-init c = sheet_start c.args.cells.now c.requires.0

pub loop-a-preserved : goal.loop-a-preserved
loop-a-preserved c =
    sheet_next _ c.loop-a.a c.loop-a.invariant (omega arith) (ap (λ r. r.0) c.sheet_word-w.ensures) (ap (λ r. r.1) c.sheet_word-w.ensures)

pub returns-2 : goal.returns-2
returns-2 c =
    sheet_end _ (c.loop-a.a + 1)
    (sheet_next _ c.loop-a.a c.loop-a.invariant (omega arith) (ap (λ r. r.0) c.sheet_word-w.ensures) (ap (λ r. r.1) c.sheet_word-w.ensures))
    (omega arith)
