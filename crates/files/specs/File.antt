-- 02 [7], SHELF FILES: the file of a listing, and the listing that a file opens to.
-- Assumes nothing.
use Rattle.std.specs.Prelude.{ℕ, zero, suc, ◌+◌, ◌*◌, ◌/◌, ◌%◌, Bool, cond, ◌&&◌, List, [], ◌∷◌, ◌++◌, get_or, eqb}
use Rattle.slices.specs.Sizes.{bank_size}
use Rattle.groups.specs.Fields.{Read, got, refused, and_then, Field, field, repeated, field_in, numbers_in}
use Rattle.groups.specs.Groups.{row_of}
use Rattle.rules.specs.Sheet.{Listing, listing, word, routines}

-- ---- the file of a listing

-- an address "has opcode, argument and sheet word 0"
abbrev pub blank : Listing → ℕ → Bool
blank L a = eqb (get_or L.program.opcodes a 0) 0 && (eqb (get_or L.program.arguments a 0) 0 && eqb (word L a) 0)

-- of m addresses, those up to the last that is not blank
unfoldable pub used_below : Listing → (m : ℕ) → ℕ
used_below L zero = 0
used_below L (suc m) = cond (blank L m) (used_below L m) (suc m)

-- "n is the least for which every later address has opcode, argument and sheet word 0" (Promise: `blank-from`, `least`)
abbrev pub least_of : Listing → ℕ
least_of L = used_below L bank_size

-- "for each of n addresses opcode, argument and sheet word", from address a on
unfoldable pub address_numbers : Listing → (a n : ℕ) → List ℕ
address_numbers L a zero = []
address_numbers L a (suc n) = get_or L.program.opcodes a 0 ∷ get_or L.program.arguments a 0 ∷ word L a ∷ address_numbers L (suc a) n

-- "First n ..; then for each of n addresses opcode, argument and sheet word; then the number of routines, and entry and need of each"
abbrev pub numbers_of : Listing → (n : ℕ) → List ℕ
numbers_of L n = n ∷ (address_numbers L 0 n ++ (routines L ∷ L.list))

-- "A shelf file is a row of numbers"
unfoldable pub file_of : Listing → List ℕ
file_of L = row_of (numbers_of L (least_of L))

-- ---- the listing that a file opens to

-- "First n, 0 to 256"
abbrev pub n_field : Field
n_field = field 0 256

-- an opcode, an argument, an entry or a need
abbrev pub byte_field : Field
byte_field = field 0 255

-- 01: "a 16-bit word for each address"
abbrev pub word_field : Field
word_field = field 0 65535

-- "routines 1 to 64"
abbrev pub count_field : Field
count_field = field 1 64

-- "for each of n addresses opcode, argument and sheet word"
abbrev pub address_fields : (n : ℕ) → List Field
address_fields n = repeated n (byte_field ∷ byte_field ∷ word_field ∷ [])

-- "entry and need of each"
abbrev pub byte_fields : (m : ℕ) → List Field
byte_fields m = repeated m (byte_field ∷ [])

-- f of n addresses from a on
unfoldable pub column : (ℕ → ℕ) → (a n : ℕ) → List ℕ
column f a zero = []
column f a (suc n) = f a ∷ column f (suc a) n

-- the same of words, 01: "low byte first"
unfoldable pub word_column : (ℕ → ℕ) → (a n : ℕ) → List ℕ
word_column f a zero = []
word_column f a (suc n) = f a % 256 ∷ f a / 256 ∷ word_column f (suc a) n

-- the listing of three numbers for each address, which are 0 where there are none, and of a routine list
unfoldable pub listing_of : (numbers list : List ℕ) → Listing
listing_of xs rs =
    listing (column (λ a. get_or xs (3 * a) 0) 0 bank_size) (column (λ a. get_or xs (3 * a + 1) 0) 0 bank_size)
    (word_column (λ a. get_or xs (3 * a + 2) 0) 0 bank_size) rs

-- "31 when .. bytes follow", where they do
abbrev pub left_over : Listing → List ℕ → Read Listing
left_over L [] = got L []
left_over L (b ∷ bs) = refused 31 (b ∷ bs)

-- "n's leastness and left-over bytes come last"; "31 when .. n isn't least", where n stands
unfoldable pub at_last : (file : List ℕ) (n : ℕ) → Listing → (left : List ℕ) → Read Listing
at_last file n L left = cond (eqb (least_of L) n) (left_over L left) (refused 31 file)

-- "Numbers are judged from the front": n, those of n addresses, the number of routines, and two for each of these
unfoldable pub listing_in : (file : List ℕ) → Read Listing
listing_in file =
    and_then (field_in n_field file) (λ n behind.
    and_then (numbers_in (address_fields n) behind) (λ xs after.
    and_then (field_in count_field after) (λ k last.
    and_then (numbers_in (byte_fields (2 * k)) last) (λ rs left.
    at_last file n (listing_of xs rs) left))))
