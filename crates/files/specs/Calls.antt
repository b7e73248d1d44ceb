-- 02 [7]: the writer and the opener, each as the answer and everything that it was lent.
-- Assumes nothing.
use Rattle.std.specs.Prelude.{ℕ, ◌-◌, cond, List, [], ◌∷◌, ◌++◌, length, drop, eqb, ltb, Result, Ok, Err}
use Rattle.slices.specs.Checks.{Check, check, first_broken}
use Rattle.slices.specs.Parts.{padded}
use Rattle.groups.specs.Fields.{Read, got, refused}
use Rattle.rules.specs.Grounds.{listing_checks, buffer_checks, max_list_size}
use Rattle.rules.specs.Sheet.{Listing, listing, routines}
use Rattle.files.specs.File.{file_of, listing_in}

-- ---- the writer

-- "32 when the writer's buffer is below 2,051 bytes"
abbrev pub file_room : ℕ
file_room = 2051

-- "the writer gives 1 to 3 first"
abbrev pub write_checks : Listing → (out : List ℕ) → List Check
write_checks L out = listing_checks L ++ (check 32 0 (ltb (length out) file_room) ∷ [])

unfoldable pub write_fault : Listing → (out : List ℕ) → ℕ
write_fault L out = first_broken (write_checks L out)

-- the answer, the file's length or a refusal's number; and the buffer
pub record Written : Type 0 where
  pub answer : Result ℕ ℕ
  pub out : List ℕ

abbrev pub written : Result ℕ ℕ → List ℕ → Written
written x o = record { answer = x; out = o }

-- the file's length, and its bytes in front; 01: "what lies in a lent buffer beyond the part written is kept"
unfoldable pub stored : (file out : List ℕ) → Written
stored file out = written (Ok (length file)) (file ++ drop (length file) out)

-- a refusal leaves the buffer
unfoldable pub shelved_of : Listing → (out : List ℕ) → Written
shelved_of L out = cond (eqb (write_fault L out) 0) (stored (file_of L) out) (written (Err (write_fault L out)) out)

-- ---- the opener

-- "and so does the opener for its buffers"
unfoldable pub open_fault : (buffers : Listing) → ℕ
open_fault B = first_broken (buffer_checks B)

-- the answer, the number of routines or a refusal's number and its place in the file; and the four buffers as a listing
pub record Outcome : Type 0 where
  pub answer : Result ℕ (ℕ × ℕ)
  pub buffers : Listing

abbrev pub outcome : Result ℕ (ℕ × ℕ) → Listing → Outcome
outcome x B = record { answer = x; buffers = B }

-- the number of routines, and a listing in four buffers: "the list's being 128 bytes, 0 after the routines"
abbrev pub opened_to : Listing → Outcome
opened_to L =
    outcome (Ok (routines L))
    (listing L.program.opcodes L.program.arguments L.sheet (padded max_list_size L.list))

-- a refusal comes with its place in the file, and leaves the buffers
unfoldable pub delivered : (file : List ℕ) → Read Listing → (buffers : Listing) → Outcome
delivered file (got L left) B = opened_to L
delivered file (refused q from) B = outcome (Err (q, length file - length from)) B

unfoldable pub opened_of : (file : List ℕ) → (buffers : Listing) → Outcome
opened_of file B = cond (eqb (open_fault B) 0) (delivered file (listing_in file) B) (outcome (Err (open_fault B, 0)) B)
