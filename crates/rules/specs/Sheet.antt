-- 01, 'The stack sheet': the words of the sheet and the routine list of a listing. Listing, sheet, routine, depth and need are 01's terms.
-- Assumes nothing.
use Rattle.std.specs.Prelude.{ℕ, ◌+◌, ◌*◌, ◌/◌, ◌%◌, List, Bool, length, get_or, eqb}
use Rattle.isa.specs.Facts.{class_of}
use Rattle.isa.specs.declared.Class.{Class}
use Rattle.model.specs.Step.{Program, instr_at}

pub record Listing : Type 0 where
  pub program : Program
  pub sheet : List ℕ
  pub list : List ℕ

abbrev pub listing : List ℕ → List ℕ → List ℕ → List ℕ → Listing
listing ops args sheet list = record { program = record { opcodes = ops; arguments = args }; sheet = sheet; list = list }

-- "a 16-bit word for each address, low byte first"
unfoldable pub word : Listing → ℕ → ℕ
word L a = get_or L.sheet (2 * a) 0 + 256 * get_or L.sheet (2 * a + 1) 0

-- "Bit 15: described. Bit 14: V is settled here. Bits 13 to 8: routine number. Bits 7 to 0: depth"
unfoldable pub described : Listing → ℕ → Bool
described L a = eqb (word L a / 32768 % 2) 1

unfoldable pub marked : Listing → ℕ → Bool
marked L a = eqb (word L a / 16384 % 2) 1

unfoldable pub routine : Listing → ℕ → ℕ
routine L a = word L a / 256 % 64

unfoldable pub depth : Listing → ℕ → ℕ
depth L a = word L a % 256

-- "The routine list has two bytes a routine: entry address, then need"
unfoldable pub routines : Listing → ℕ
routines L = length L.list / 2

unfoldable pub entry : Listing → ℕ → ℕ
entry L r = get_or L.list (2 * r) 0

unfoldable pub need : Listing → ℕ → ℕ
need L r = get_or L.list (2 * r + 1) 0

-- the class of the instruction at an address
abbrev pub class_at : Listing → ℕ → Class
class_at L a = class_of (instr_at L.program a)
