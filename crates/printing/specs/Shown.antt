-- What printing keeps of a form. 02 [1]: "Printing a form and assembling it gives that form, with R0 in any field that its mnemonic doesn't show".
-- Assumes nothing.
use Rattle.std.specs.Prelude.{ℕ, Bool, cond, ◌&&◌, ◌||◌, eqb, leb}
use Rattle.isa.specs.declared.Instr.{Instr}
use Rattle.numbers.specs.Numbers.{fields_of, instr_of}
use Rattle.numbers.specs.declared.Fields.{Fields}

-- 003, 'ALU Operations': "mov Rd, Rb" doesn't show Ra
abbrev pub hides_ra : ℕ → Bool
hides_ra f = eqb f 0b0000

-- "not Rd, Ra", and sll, srl, sra and rol, don't show Rb
abbrev pub hides_rb : ℕ → Bool
hides_rb f = eqb f 0b0111 || leb 0b1100 f

-- the rows ALU* Rd, Ra, Rb and ALU* NONE, Ra, Rb of 003's table; every other row's mnemonic shows all its fields
abbrev pub is_function : ℕ → Bool
is_function form = eqb form 0 || eqb form 2

abbrev pub shown_fields : Fields → Fields
shown_fields x =
    (x.0, x.1, cond (is_function x.0 && hides_ra x.3) 0 x.2, x.3, cond (is_function x.0 && hides_rb x.3) 0 x.4, x.5)

-- a form with R0 in the fields that its mnemonic doesn't show
abbrev pub shown_of : Instr → Instr
shown_of i = instr_of (shown_fields (fields_of i))
