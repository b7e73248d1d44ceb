-- Worked examples: listing A's file, and small files with the number and the place that refuse each.
-- Assumes nothing.
use Rattle.std.specs.Prelude.{ℕ, ◌-◌, ◌≡◌, List, [], ◌∷◌, ◌++◌, length, replicate}
use Rattle.slices.specs.Lists.{mapped}
use Rattle.examples.specs.Listings.{A}
use Rattle.groups.specs.Fields.{Read, got, refused}
use Rattle.files.specs.File.{file_of, listing_in}

-- n, a line for each of eight addresses, the number of routines, a line for each of two
abbrev pub file_a : List ℕ
file_a =
    (8 ∷ [])
    ++ (48 ∷ 5 ∷ 128 ∷ 128 ∷ 2 ∷ [])
    ++ (168 ∷ 1 ∷ 4 ∷ 128 ∷ 128 ∷ 2 ∷ [])
    ++ (240 ∷ 1 ∷ 0 ∷ 128 ∷ 128 ∷ 2 ∷ [])
    ++ (248 ∷ 1 ∷ 0 ∷ 128 ∷ 128 ∷ 2 ∷ [])
    ++ (94 ∷ 0 ∷ 128 ∷ 130 ∷ 2 ∷ [])
    ++ (16 ∷ 1 ∷ 129 ∷ 130 ∷ 2 ∷ [])
    ++ (136 ∷ 1 ∷ 0 ∷ 129 ∷ 130 ∷ 3 ∷ [])
    ++ (172 ∷ 1 ∷ 0 ∷ 128 ∷ 130 ∷ 3 ∷ [])
    ++ (2 ∷ [])
    ++ (0 ∷ 2 ∷ [])
    ++ (4 ∷ 1 ∷ [])

-- a file, and the number and the place that refuse it; 0 and 0 where it opens
pub record Case : Type 0 where
  pub file : List ℕ
  pub number : ℕ
  pub place : ℕ

abbrev pub case : List ℕ → (number place : ℕ) → Case
case f q p = record { file = f; number = q; place = p }

abbrev pub cases : List Case
cases =
    -- the shortest file of all: no address, one routine
    case (0 ∷ 1 ∷ 0 ∷ 0 ∷ []) 0 0
    -- cut off
    ∷ case [] 30 0
    ∷ case (0x80 ∷ []) 30 0
    ∷ case (0 ∷ 1 ∷ 0 ∷ []) 30 3
    ∷ case (replicate 10 0xFF) 30 0
    -- not shortest, however long
    ∷ case (0x80 ∷ 0x00 ∷ []) 30 0
    ∷ case (replicate 10 0xFF ++ (0x00 ∷ [])) 30 0
    -- over its field, however long; n is 257
    ∷ case (replicate 10 0xFF ++ (0x01 ∷ [])) 31 0
    ∷ case (0x81 ∷ 0x02 ∷ []) 31 0
    -- an opcode of 256, judged before the argument, which is cut off
    ∷ case (1 ∷ 0x80 ∷ 0x02 ∷ 0x80 ∷ []) 31 1
    -- an opcode that is not shortest, before an argument over its field
    ∷ case (1 ∷ 0x80 ∷ 0x00 ∷ 0x80 ∷ 0x02 ∷ []) 30 1
    -- a sheet word of 65,536
    ∷ case (1 ∷ 0 ∷ 0 ∷ 0x80 ∷ 0x80 ∷ 0x04 ∷ []) 31 3
    -- no routine, 65 routines
    ∷ case (0 ∷ 0 ∷ []) 31 1
    ∷ case (0 ∷ 65 ∷ []) 31 1
    -- n is not least, which comes before a byte that follows, but behind a list that is cut off
    ∷ case (1 ∷ 0 ∷ 0 ∷ 0 ∷ 1 ∷ 0 ∷ 0 ∷ []) 31 0
    ∷ case (1 ∷ 0 ∷ 0 ∷ 0 ∷ 1 ∷ 0 ∷ 0 ∷ 0 ∷ []) 31 0
    ∷ case (1 ∷ 0 ∷ 0 ∷ 0 ∷ 1 ∷ 0 ∷ []) 30 6
    -- a byte follows
    ∷ case (0 ∷ 1 ∷ 0 ∷ 0 ∷ 0 ∷ []) 31 4
    ∷ []

-- what refuses a file
abbrev pub refusal : {X : Type 0} (file : List ℕ) → Read X → Case
refusal file (got x rest) = case file 0 0
refusal file (refused q from) = case file q (length file - length from)

abbrev pub computed : Case → Case
computed c = refusal c.file (listing_in c.file)

pub record Worked : Type 0 where
  pub file_of_a : file_of A ≡ file_a
  pub opens_to_a : listing_in file_a ≡ got A []
  pub refusals : mapped computed cases ≡ cases
