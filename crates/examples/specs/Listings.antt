-- Listing A of 01, the listings of "Programs run the rest", and a listing for each ground 1 to 16, with the answers that 01 gives.
-- Assumes nothing.
use Rattle.std.specs.Prelude.{ℕ, zero, suc, ◌+◌, ◌*◌, ◌/◌, ◌%◌, ◌≡◌, List, [], ◌∷◌, ◌++◌}
use Rattle.slices.specs.Lists.{mapped}
use Rattle.slices.specs.Parts.{padded}
use Rattle.slices.specs.Sizes.{bank_size}
use Rattle.rules.specs.Grounds.{sheet_size, admit_of}
use Rattle.rules.specs.Sheet.{Listing, listing}

-- an address: opcode, argument, sheet word
pub record Word : Type 0 where
  pub opcode : ℕ
  pub argument : ℕ
  pub sheet : ℕ

abbrev pub w : ℕ → ℕ → ℕ → Word
w op arg s = record { opcode = op; argument = arg; sheet = s }

abbrev pub opcodes_in : List Word → List ℕ
opcodes_in [] = []
opcodes_in (x ∷ xs) = x.opcode ∷ opcodes_in xs

abbrev pub arguments_in : List Word → List ℕ
arguments_in [] = []
arguments_in (x ∷ xs) = x.argument ∷ arguments_in xs

-- low byte first
abbrev pub sheet_in : List Word → List ℕ
sheet_in [] = []
sheet_in (x ∷ xs) = x.sheet % 256 ∷ x.sheet / 256 ∷ sheet_in xs

abbrev pub from_words : List Word → List ℕ → Listing
from_words xs list =
    listing (padded bank_size (opcodes_in xs)) (padded bank_size (arguments_in xs)) (padded sheet_size (sheet_in xs)) list

-- listing A, with the sheet words at 2, 4 and 7 and any words after it
abbrev pub words_a : (at2 at4 at7 : ℕ) → List Word → List Word
words_a at2 at4 at7 more =
    w 0x30 0x05 0x8000
    ∷ w 0xA8 0x04 0x8000
    ∷ w 0xF0 0x00 at2
    ∷ w 0xF8 0x00 0x8000
    ∷ w 0x5E 0x00 at4
    ∷ w 0x10 0x01 0x8101
    ∷ w 0x88 0x00 0xC101
    ∷ w 0xAC 0x00 at7
    ∷ more

abbrev pub list_a : List ℕ
list_a = 0x00 ∷ 0x02 ∷ 0x04 ∷ 0x01 ∷ []

abbrev pub A : Listing
A = from_words (words_a 0x8000 0x8100 0xC100 []) list_a

-- listing A with another list, or with banks or sheet of n bytes
abbrev pub listed_a : List ℕ → Listing
listed_a list = from_words (words_a 0x8000 0x8100 0xC100 []) list

abbrev pub sized_a : (opcodes arguments sheet : ℕ) → Listing
sized_a n k m =
    let xs = words_a 0x8000 0x8100 0xC100 [] in
    listing (padded n (opcodes_in xs)) (padded k (arguments_in xs)) (padded m (sheet_in xs)) list_a

-- n pushes in routine 0 from depth d on, then another word
abbrev pub pushes : ℕ → ℕ → Word → List Word
pushes zero d last = last ∷ []
pushes (suc n) d last = w 0x5C 0x00 (0x8000 + d) ∷ pushes n (d + 1) last

-- a listing with the answer worked out from 01
pub record Case : Type 0 where
  pub of : Listing
  pub number : ℕ
  pub place : ℕ

abbrev pub case : Listing → (number place : ℕ) → Case
case L n p = record { of = L; number = n; place = p }

abbrev pub cases : List Case
cases =
    -- admitted: listing A; 255 pushes, then hlt at 255, need 255
    case A 0 0
    ∷ case (from_words (pushes 255 0 (w 0xF8 0x00 0x80FF)) (0 ∷ 255 ∷ [])) 0 0
    -- "a push at 255 instead, 13; nop at 255, 13"
    ∷ case (from_words (pushes 255 0 (w 0x5C 0x00 0x80FF)) (0 ∷ 255 ∷ [])) 13 255
    ∷ case (from_words (pushes 255 0 (w 0xFC 0x00 0x80FF)) (0 ∷ 255 ∷ [])) 13 255
    -- "push then `jmp 0` with need 1, 16 at 1"
    ∷ case (from_words (w 0x5C 0x00 0x8000 ∷ w 0xA0 0x00 0x8001 ∷ []) (0 ∷ 1 ∷ [])) 16 1
    -- "a routine that calls itself, 15 for every need"
    ∷ case (from_words (w 0xA8 0x00 0x8000 ∷ w 0xF8 0x00 0x8000 ∷ []) (0 ∷ 0 ∷ [])) 15 0
    ∷ case (from_words (w 0xA8 0x00 0x8000 ∷ w 0xF8 0x00 0x8000 ∷ []) (0 ∷ 255 ∷ [])) 15 0
    -- M9 and M10
    ∷ case (listed_a (0x00 ∷ 0x01 ∷ 0x04 ∷ 0x01 ∷ [])) 15 1
    ∷ case (from_words (words_a 0xC000 0x8100 0xC100 []) list_a) 16 1
    -- 1, 2, 3: sizes
    ∷ case (sized_a 255 256 512) 1 0
    ∷ case (sized_a 256 257 512) 1 0
    ∷ case (sized_a 256 256 511) 2 0
    ∷ case (listed_a (0x00 ∷ 0x02 ∷ 0x04 ∷ [])) 3 0
    ∷ case (listed_a []) 3 0
    ∷ case (listed_a (padded 130 list_a)) 3 0
    -- 4: a word without bit 15 at 9
    ∷ case (from_words (words_a 0x8000 0x8100 0xC100 (w 0 0 0 ∷ w 0 0 0x0001 ∷ [])) list_a) 4 9
    -- 5: routine 2 named at 7
    ∷ case (from_words (words_a 0x8000 0x8100 0xC200 []) list_a) 5 7
    -- 6: routine 0's entry is 1
    ∷ case (listed_a (0x01 ∷ 0x02 ∷ 0x04 ∷ 0x01 ∷ [])) 6 0
    -- 7: routine 1's entry word has depth 1, or marks V
    ∷ case (from_words (words_a 0x8000 0x8101 0xC100 []) list_a) 7 1
    ∷ case (from_words (words_a 0x8000 0xC100 0xC100 []) list_a) 7 1
    -- 8: depth 1 at 5 is over routine 1's need 0
    ∷ case (listed_a (0x00 ∷ 0x02 ∷ 0x04 ∷ 0x00 ∷ [])) 8 5
    -- 9: jmp R0; 10: jv without a mark; 11: pop, and swap, at depth 0; 12: ret in routine 0
    ∷ case (from_words (w 0xA4 0x00 0x8000 ∷ []) (0 ∷ 0 ∷ [])) 9 0
    ∷ case (from_words (w 0xC0 0x00 0x8000 ∷ []) (0 ∷ 0 ∷ [])) 10 0
    ∷ case (from_words (w 0x80 0x00 0x8000 ∷ []) (0 ∷ 0 ∷ [])) 11 0
    ∷ case (from_words (w 0x90 0x00 0x8000 ∷ []) (0 ∷ 0 ∷ [])) 11 0
    ∷ case (from_words (w 0xAC 0x00 0x8000 ∷ []) (0 ∷ 0 ∷ [])) 12 0
    -- 12: ret at depth 1, which would go to a pushed byte
    ∷ case (from_words (w 0xA8 0x02 0x8000 ∷ w 0xF8 0x00 0x8000 ∷ w 0x5C 0x00 0x8100 ∷ w 0xAC 0x00 0x8101 ∷ []) (0 ∷ 2 ∷ 2 ∷ 1 ∷ [])) 12 3
    -- 14: a call of 5, which is no entry
    ∷ case (from_words (w 0xA8 0x05 0x8000 ∷ w 0xF8 0x00 0x8000 ∷ []) (0 ∷ 5 ∷ [])) 14 0
    -- 16: the next word isn't described; V marked after mask; V marked after a call
    ∷ case (from_words (w 0xFC 0x00 0x8000 ∷ []) (0 ∷ 0 ∷ [])) 16 0
    ∷ case (from_words (w 0x28 0x00 0x8000 ∷ w 0xF8 0x00 0xC000 ∷ []) (0 ∷ 0 ∷ [])) 16 0
    ∷ case (from_words (w 0x24 0x00 0x8000 ∷ w 0xA8 0x03 0xC000 ∷ w 0xF8 0x00 0xC000 ∷ w 0xAC 0x00 0x8100 ∷ []) (0 ∷ 1 ∷ 3 ∷ 0 ∷ [])) 16 1
    ∷ []

-- the number of each case
abbrev pub shown : List ℕ
shown =
    0 ∷ 0 ∷ 13 ∷ 13 ∷ 16 ∷ 15 ∷ 15 ∷ 15 ∷ 16 ∷ 1 ∷ 1 ∷ 2 ∷ 3 ∷ 3 ∷ 3
    ∷ 4 ∷ 5 ∷ 6 ∷ 7 ∷ 7 ∷ 8 ∷ 9 ∷ 10 ∷ 11 ∷ 11 ∷ 12 ∷ 12 ∷ 14 ∷ 16 ∷ 16 ∷ 16 ∷ []

-- each listing is answered as worked out, and these are the rules shown: none of 1 to 16 is missing
pub record Answered : Type 0 where
  pub numbers : mapped (λ (c : Case). c.number) cases ≡ shown
  pub as_stated : mapped (λ (c : Case). admit_of c.of) cases ≡ mapped (λ (c : Case). c.number + 256 * c.place) cases
