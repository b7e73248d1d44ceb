-- 02, [4]: listings around function 0000, with the answers worked out by the rules and by the former rules.
-- Assumes nothing.
use Rattle.std.specs.Prelude.{ℕ, ◌+◌, ◌*◌, ◌≡◌, List, [], ◌∷◌, length}
use Rattle.rules.specs.Former.{formerly_settles}
use Rattle.rules.specs.Grounds.{admit_by, admit_of}
use Rattle.rules.specs.Sheet.{Listing}
use Rattle.slices.specs.Lists.{mapped}
use Rattle.examples.specs.Listings.{w, from_words, A}

-- an instruction, then `jlt 2` and hlt, the sheet word at 1 being given
abbrev pub then_jlt : (opcode argument at1 : ℕ) → Listing
then_jlt op arg at1 = from_words (w op arg 0x8000 ∷ w 0xD8 0x02 at1 ∷ w 0xF8 0x00 0x8000 ∷ []) (0 ∷ 0 ∷ [])

-- a listing with the answer by the rules, and that by the former rules
pub record Compared : Type 0 where
  pub of : Listing
  pub now : ℕ
  pub formerly : ℕ

abbrev pub compared : Listing → (now formerly : ℕ) → Compared
compared L n f = record { of = L; now = n; formerly = f }

abbrev pub mov_listings : List Compared
mov_listings =
    -- V marked after `mov R0, R1`, and after function 0000 without a destination: 16 at 0 by the former rules
    compared (then_jlt 0x01 0x01 0xC000) 0 16
    ∷ compared (then_jlt 0x20 0x01 0xC000) 0 16
    -- no mark: 10 at 1 by both
    ∷ compared (then_jlt 0x01 0x01 0x8000) (10 + 256 * 1) (10 + 256 * 1)
    -- V marked after `mov R0, 5`, and after `and R0, R0, R1`: 16 at 0 by both
    ∷ compared (then_jlt 0x30 0x05 0xC000) 16 16
    ∷ compared (then_jlt 0x00 0x51 0xC000) 16 16
    -- V marked after `sub R0, R0, R1`, and listing A: admitted by both
    ∷ compared (then_jlt 0x00 0x21 0xC000) 0 0
    ∷ compared A 0 0
    ∷ []

-- each is answered as worked out, and none is missing
pub record AnsweredByBoth : Type 0 where
  pub seven : length mov_listings ≡ 7
  pub as_now : mapped (λ (x : Compared). admit_of x.of) mov_listings ≡ mapped (λ (x : Compared). x.now) mov_listings
  pub as_formerly : mapped (λ (x : Compared). admit_by formerly_settles x.of) mov_listings ≡ mapped (λ (x : Compared). x.formerly) mov_listings
