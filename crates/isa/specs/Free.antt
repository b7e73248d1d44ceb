-- The free bits of a row, those that 003's table writes X, and two bytes with them cleared.
-- Assumes nothing.
use Rattle.std.specs.Prelude.{ℕ, ◌-◌, Ok}
use Rattle.std.specs.Int.Bits.{bit_and}
use Rattle.isa.specs.Encode.{Encoded}
use Rattle.isa.specs.Table.{opcode_in, argument_in}
use Rattle.isa.specs.declared.Argument.{Argument}
use Rattle.isa.specs.declared.Argument.TheVariants.{FFFFXXBB, IIIIIIII, XXXXXXBB, XXXXXXXX}
use Rattle.isa.specs.declared.Opcode.{Opcode}
use Rattle.isa.specs.declared.Opcode.TheVariants.{DDAA, DDXX, OOAA, OOXX}
use Rattle.isa.specs.declared.Row.{Row}

-- 1 where the row has X
abbrev pub free_in_opcode : Opcode → ℕ
free_in_opcode (DDAA p d a) = 0b0000_0000
free_in_opcode (DDXX p d) = 0b0000_0011
free_in_opcode (OOAA p a) = 0b0000_0000
free_in_opcode (OOXX p) = 0b0000_0011

abbrev pub free_in_argument : Argument → ℕ
free_in_argument (FFFFXXBB f b) = 0b0000_1100
free_in_argument (IIIIIIII i) = 0b0000_0000
free_in_argument (XXXXXXBB b) = 0b1111_1100
free_in_argument XXXXXXXX = 0b1111_1111

-- a byte with the free bits cleared and all others kept
abbrev pub without : ℕ → ℕ → ℕ
without free byte = bit_and byte (255 - free)

abbrev pub cleared_of : Row → ℕ → ℕ → Encoded
cleared_of r op arg = Ok (without (free_in_opcode (opcode_in r)) op, without (free_in_argument (argument_in r)) arg)
