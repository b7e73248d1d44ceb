-- What the desk prints for listing A (01, 'Listing A and the edges'), byte for byte, and other lines that 01 shows.
-- Assumes nothing.
use Rattle.std.specs.Prelude.{ℕ, ◌≡◌, List, [], ◌∷◌, ◌++◌}
use Rattle.rules.specs.Grounds.{sheet_size}
use Rattle.slices.specs.Parts.{padded}
use Rattle.slices.specs.Sizes.{bank_size}
use Rattle.report.specs.Desk.{desk_text}
use Rattle.pages.specs.Text.{ascii}
use Rattle.lines.specs.Shown.{Shown}

-- listing A as an input: "0 `30 05`, 1 `A8 04`, 2 `F0 00`, 3 `F8 00`, 4 `5E 00`, 5 `10 01`, 6 `88 00`, 7 `AC 00`"; "Sheet words: 8000 four
-- times, 8100, 8101, C101, C100", low byte first; "List: 00 02 04 01"
abbrev pub input_a : List ℕ
input_a =
    padded bank_size (0x30 ∷ 0xA8 ∷ 0xF0 ∷ 0xF8 ∷ 0x5E ∷ 0x10 ∷ 0x88 ∷ 0xAC ∷ [])
    ++ padded bank_size (0x05 ∷ 0x04 ∷ 0x00 ∷ 0x00 ∷ 0x00 ∷ 0x01 ∷ 0x00 ∷ 0x00 ∷ [])
    ++ padded sheet_size
    (0x00 ∷ 0x80 ∷ 0x00 ∷ 0x80 ∷ 0x00 ∷ 0x80 ∷ 0x00 ∷ 0x80 ∷ 0x00 ∷ 0x81 ∷ 0x01 ∷ 0x81 ∷ 0x01 ∷ 0xC1 ∷ 0x00 ∷ 0xC1 ∷ [])
    ++ (0x00 ∷ 0x02 ∷ 0x04 ∷ 0x01 ∷ [])

pub record Printed : Type 0 where
  -- "Listing A prints exactly these two lines"
  pub listing_a : desk_text input_a ≡ ascii "admitted need 2\nhalted steps 8 cycles 31 out 6 sp 255\n"
  -- other lines that 01 shows
  pub lines : Shown
