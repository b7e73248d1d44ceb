-- The sheet is filled up to the bytes of the address that the loop has come to.
use Prim.Native.Nat.{◌*◌}
use Rattle.drawings.specs.internal.Drafts.{sheet_of}
use Rattle.slices.proofs.Filling.{Filled}
use Rattle.drafting.proofs.write_sheet.Given as goal

abbrev pub invariant-loop-a : goal.invariant-loop-a
invariant-loop-a l = Filled (sheet_of l.cells) l.out (2 * l.a)
