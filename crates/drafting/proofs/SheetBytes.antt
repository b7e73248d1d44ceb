-- The two bytes of an address, and the loop that writes the sheet: it is filled up to the bytes of the address reached.
-- Assumes nothing.
use Prim.Native.Nat.{ℕ, ◌+◌, ◌*◌, ◌%◌, ◌≤◌, ◌<◌}
use native.Mathlib.Nat.{pos_of_ne-zero}
use native.Mathlib.Omega.{arith}
use mathlib.Core.Path.{◌≡◌, sym, ◌∙◌}
use mathlib.Core.Logic.{◌≢◌}
use mathlib.Core.Bool.{Bool}
use mathlib.Core.List.{List}
use lib.ListN.{length, get_or, set}
use borrow.Author.Tests.{lt-ltb}
use Rattle.drawings.specs.internal.Cells.{bit, seen, entry_in, mark_in}
use Rattle.drawings.specs.internal.Drafts.{rank, low_byte, high_byte, sheet_of}
use Rattle.drawings.proofs.DraftParts.{sheet_long, sheet_low, sheet_high}
use Rattle.drawings.proofs.Weights.{entry_low}
use Rattle.drafting.specs.internal.Writing.{numbers_of}
use Rattle.slices.proofs.Filling.{Filled, fill_start, fill_two, fill_end}
use Rattle.drafting.proofs.Numbering.{number_at}

-- ---- the bytes of a reached address
-- the number read from the table, by the entry in a word
pub number_read : (ws : List ℕ) (w : ℕ) {ns : List ℕ} {e v : ℕ} → ns ≡ numbers_of ws → e ≡ entry_in w → v ≡ get_or ns e 0 → v ≡ rank ws (entry_in w) % 64
number_read ws w p q r = rw (r, p, q) (number_at ws (entry_in w) (entry_low w))

pub number_low : (ws : List ℕ) (w : ℕ) {ns : List ℕ} {e v : ℕ} → ns ≡ numbers_of ws → e ≡ entry_in w → v ≡ get_or ns e 0 → v < 64
number_low ws w p q r = let k = number_read ws w p q r in omega arith

pub high_reached :
    (ws : List ℕ) (a w : ℕ) {m : Bool} {v h : ℕ} → w ≡ get_or ws a 0 → w ≢ 0 → m ≡ mark_in w → v ≡ rank ws (entry_in w) % 64
    → h ≡ 128 + 64 * bit m + v → h ≡ high_byte ws a
unfolding high_byte seen
high_reached ws a w p ne q r s = rw (s, q, r, ← p, lt-ltb 0 w (pos_of_ne-zero ne))

-- ---- the loop
module _ (ws : List ℕ) {out : List ℕ} where
  pub sheet_start : length out ≡ 512 → Filled (sheet_of ws) out 0
  sheet_start h = fill_start (h ∙ sym (sheet_long ws 256 0))

  module _ (a : ℕ) (f : Filled (sheet_of ws) out (2 * a)) where
    pub whole_sheet : length out ≡ 512
    whole_sheet = f.long ∙ sheet_long ws 256 0

    pub sheet_next :
        {v w : ℕ} → a < 256 → v ≡ low_byte ws a → w ≡ high_byte ws a
        → Filled (sheet_of ws) (set (set out (2 * a) v) (2 * a + 1) w) (2 * (a + 1))
    sheet_next h p q =
        let l = sheet_long ws 256 0 in
        fill_two a f (omega arith) (p ∙ sym (sheet_low ws 256 0 a a h (omega arith))) (q ∙ sym (sheet_high ws 256 0 a a h (omega arith)))

    pub sheet_end : 256 ≤ a → out ≡ sheet_of ws
    sheet_end h = let l = sheet_long ws 256 0 in fill_end f (omega arith)
