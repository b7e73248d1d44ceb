-- 02 [7]: "Each listing that passes 1 to 3 has one file, and a file opens to that listing".
-- Assumes nothing.
use Rattle.std.specs.Prelude.{ℕ, ◌≤◌, ◌<◌, ◌≡◌, true, List, [], length, take}
use Rattle.slices.specs.Checks.{NoneBroken, FirstViolation}
use Rattle.slices.specs.Lists.{Bytes}
use Rattle.slices.specs.Sizes.{bank_size}
use Rattle.groups.specs.Fields.{got, refused}
use Rattle.groups.specs.Shortest.{Shortest, InFront}
use Rattle.rules.specs.Grounds.{listing_checks, buffer_checks}
use Rattle.rules.specs.Sheet.{Listing}
use Rattle.files.specs.Calls.{file_room, write_checks, write_fault, shelved_of, open_fault, opened_to, opened_of}
use Rattle.files.specs.Examples.{Worked}
use Rattle.files.specs.File.{blank, least_of, file_of, listing_in}

-- a listing of bytes that passes 1 to 3
pub record Passes (L : Listing) : Type 0 where
  pub sizes : NoneBroken (listing_checks L)
  pub opcode_bytes : Bytes L.program.opcodes
  pub argument_bytes : Bytes L.program.arguments
  pub sheet_bytes : Bytes L.sheet
  pub list_bytes : Bytes L.list

-- "every later address has opcode, argument and sheet word 0"
abbrev pub BlankFrom : Listing → ℕ → Type 0
BlankFrom L n = (a : ℕ) → n ≤ a → a < bank_size → blank L a ≡ true

-- the file of a listing that passes
pub record HasFile (L : Listing) : Type 0 where
  -- n is the least
  pub blank_from : BlankFrom L (least_of L)
  pub least : (n : ℕ) → BlankFrom L n → least_of L ≤ n
  -- its file opens to it
  pub opens : listing_in (file_of L) ≡ got L []
  -- and has at most 2,051 bytes
  pub short : length (file_of L) ≤ file_room
  -- what the writer wrote opens, in any four buffers of the right lengths, to what it was written of
  pub returns :
      (out : List ℕ) (B : Listing) → file_room ≤ length out → NoneBroken (buffer_checks B)
      → opened_of (take (length (file_of L)) (shelved_of L out).out) B ≡ opened_to L

-- a row of bytes as a file
pub record IsFile (file : List ℕ) : Type 0 where
  -- where it opens to a listing, that passes, and this is its file
  pub passes : {L : Listing} {left : List ℕ} → listing_in file ≡ got L left → Passes L
  pub the_file : {L : Listing} {left : List ℕ} → listing_in file ≡ got L left → file ≡ file_of L
  -- where it is refused, it is no listing's file
  pub no_file : {q : ℕ} {from : List ℕ} → listing_in file ≡ refused q from → (L : Listing) → Passes L → file ≡ file_of L → ⊥

-- THE PROMISE of shelf files
pub record ShelfPromise : Type 0 where
  pub files : (L : Listing) → Passes L → HasFile L
  pub opened : (file : List ℕ) → Bytes file → IsFile file
  -- so no two files open to one listing
  pub one_file : (f g : List ℕ) (L : Listing) → Bytes f → Bytes g → listing_in f ≡ got L [] → listing_in g ≡ got L [] → f ≡ g
  -- what is written of a number is its shortest form, and just that is read
  pub shortest : (n : ℕ) → Shortest n
  pub in_front : (bs : List ℕ) → Bytes bs → InFront bs
  -- of 1 to 3 and 32 the first that applies is given
  pub write_first : (L : Listing) (out : List ℕ) → FirstViolation (write_checks L out) (write_fault L out)
  pub open_first : (B : Listing) → FirstViolation (buffer_checks B) (open_fault B)
  -- the worked examples
  pub worked : Worked
