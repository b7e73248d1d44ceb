-- Shifts and masks as quotients and remainders.
use mathlib.Core.Path.{refl}
use Prim.Native.Nat.{◌/◌}
use lib.Bits.{and_mask}
use Rattle.drawings.specs.internal.Cells.{need_in, depth_in, entry_in, mark_in}
use Rattle.cells.proofs.unpack.Goals as goal

pub returns : goal.returns
unfolding need_in depth_in entry_in mark_in
returns c = rw (and_mask (c.args.w / 65536) 8, and_mask (c.args.w / 256) 8, and_mask (c.args.w / 16777216) 1, and_mask c.args.w 8) refl
