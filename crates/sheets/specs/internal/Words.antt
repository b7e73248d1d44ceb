-- A sheet word's parts as admission's code reads them (01, 'The stack sheet').
-- Assumes nothing.
use Rattle.std.specs.Prelude.{ℕ, ◌+◌, ◌*◌, ◌/◌, ◌%◌, List, get_or, eqb}
use Rattle.sheets.specs.declared.Word.{Word}

-- "Bit 15: described. Bit 14: V is settled here. Bits 13 to 8: routine number. Bits 7 to 0: depth"
abbrev pub parts_of : ℕ → Word
parts_of n =
    record { blank = eqb n 0; described = eqb (n / 32768 % 2) 1; marked = eqb (n / 16384 % 2) 1; routine = n / 256 % 64; depth = n % 256 }

-- "a 16-bit word for each address, low byte first"
unfoldable pub word_of : List ℕ → ℕ → Word
word_of s a = parts_of (get_or s (2 * a) 0 + 256 * get_or s (2 * a + 1) 0)
