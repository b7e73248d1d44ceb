-- The spellings of 003: its forty rows, then its macros, in one table by which forms are printed and lines are read.
-- 02 [1]: "One instruction stands on a line, spelled as in 003 with small mnemonics"; "003's macros are included".
-- "A space follows the mnemonic, a comma and a space part the operands."
-- In a spelling X, Y and Z stand for the registers Rd, Ra and Rb, # for Imm8 and @ for Addr8; every other character stands for itself.
-- Assumes nothing.
use Rattle.std.specs.Prelude.{ℕ, ◌+◌, ◌-◌, ◌%◌, cond, List, [], ◌∷◌, ◌++◌, eqb, ltb, get_or}
use Prim.Native.String.{String}
use Rattle.slices.specs.Lists.{mapped}
use Rattle.pages.specs.Text.{ascii}
use Rattle.isa.specs.declared.Instr.{Instr}
use Rattle.isa.specs.declared.Instr.TheVariants.{Alu, AddImm, AluNone, CmpImm, Swap, Jmp, Jz, Jnz, Jc, Jnc, Jleu, Jlt, Jle, LcdCmd}
use Rattle.numbers.specs.Numbers.{instr_of}
use Rattle.spelling.specs.declared.Places.{Places}

-- 003, 'ALU Operations': a function's mnemonic, and the operands that stand behind its destination
abbrev pub operations : List (String × String)
operations =
    ("mov", "Z")
    ∷ ("add", "Y, Z")
    ∷ ("sub", "Y, Z")
    ∷ ("addc", "Y, Z")
    ∷ ("subb", "Y, Z")
    ∷ ("and", "Y, Z")
    ∷ ("or", "Y, Z")
    ∷ ("not", "Y")
    ∷ ("xor", "Y, Z")
    ∷ ("nand", "Y, Z")
    ∷ ("nor", "Y, Z")
    ∷ ("xnor", "Y, Z")
    ∷ ("sll", "Y")
    ∷ ("srl", "Y")
    ∷ ("sra", "Y")
    ∷ ("rol", "Y")
    ∷ []

-- each function with a destination. 003: "The fake register NONE can be used as the destination register for any of those mnemonics"
abbrev pub with_destination : String → List (List ℕ)
with_destination to = mapped (λ (o : String × String). ascii o.0 ++ (ascii to ++ ascii o.1)) operations

-- 003, 'INSTRUCTION TABLE', from its fourth row on
abbrev pub others : List String
others =
    "cmp Y, #"
    ∷ "mask Y, #"
    ∷ "mask IN, #"
    ∷ "mov X, #"
    ∷ "mov X, IN"
    ∷ "mov IN, Ack"
    ∷ "mov [@], Y"
    ∷ "mov [Z], Y"
    ∷ "push Y"
    ∷ "mov X, [@]"
    ∷ "mov X, [Y]"
    ∷ "pop X"
    ∷ "swap X, Y"
    ∷ "jmp @"
    ∷ "jmp Y"
    ∷ "call @"
    ∷ "ret"
    ∷ "jz @"
    ∷ "jnz @"
    ∷ "jc @"
    ∷ "jnc @"
    ∷ "jv @"
    ∷ "jnv @"
    ∷ "jlz @"
    ∷ "jp @"
    ∷ "jgz @"
    ∷ "jleu @"
    ∷ "jlt @"
    ∷ "jle @"
    ∷ "mov LCDcmd, #"
    ∷ "mov LCD, #"
    ∷ "mov LCD, Y"
    ∷ "mov LCD, [@]"
    ∷ "mov OUT, Y"
    ∷ "mov OUT, [@]"
    ∷ "hlt"
    ∷ "nop"
    ∷ []

-- `skip(1)` in the instruction at an address: 02 [1], "the address after the next instruction, modulo 256"
abbrev pub skip : ℕ → ℕ
skip at = (at + 2) % 256

-- a macro: its spelling, and the forms that replace it, by what stands in its places, the address @ and the macro's own address
pub record Macro : Type 0 where
  pub text : String
  pub forms : Places → (to at : ℕ) → List Instr

abbrev pub macro : String → (Places → ℕ → ℕ → List Instr) → Macro
macro t f = record { text = t; forms = f }

-- 003, 'Macros', each below 003's arrow: those of one word, then those of two, then those of three. 02 [1]: "-1 being 255; neither is
-- typed": no spelling has them
abbrev pub macros : List Macro
macros =
    -- cmp Ra, Rb → sub NONE, Ra, Rb
    macro "cmp Y, Z" (λ p to at. AluNone p.a 0b0010 p.b ∷ [])
    -- mask Ra, Rb → and NONE, Ra, Rb: 003, remarks: "The mov, add, cmp, and mask instructions have register and immediate versions"
    ∷ macro "mask Y, Z" (λ p to at. AluNone p.a 0b0101 p.b ∷ [])
    -- test Ra → mov NONE, Ra
    ∷ macro "test Y" (λ p to at. AluNone 0 0b0000 p.a ∷ [])
    -- inc Ra → add Ra, Ra, 1
    ∷ macro "inc Y" (λ p to at. AddImm p.a p.a 1 ∷ [])
    -- dec Ra → add Ra, Ra, -1
    ∷ macro "dec Y" (λ p to at. AddImm p.a p.a 255 ∷ [])
    -- sllc Rd, Ra → addc Rd, Ra, Ra
    ∷ macro "sllc X, Y" (λ p to at. Alu p.d p.a 0b0011 p.a ∷ [])
    -- swap Ra → swap Ra, Ra
    ∷ macro "swap Y" (λ p to at. Swap p.a p.a ∷ [])
    -- mov LCDcmd, Clr → mov LCDcmd, 0x01
    ∷ macro "mov LCDcmd, Clr" (λ p to at. LcdCmd 0x01 ∷ [])
    -- jeq addr → jz addr
    ∷ macro "jeq @" (λ p to at. Jz to ∷ [])
    -- jne addr → jnz addr
    ∷ macro "jne @" (λ p to at. Jnz to ∷ [])
    -- jltu addr → jc addr
    ∷ macro "jltu @" (λ p to at. Jc to ∷ [])
    -- jgtu Ra, Rb, addr → cmp Rb, Ra; jltu addr
    ∷ macro "jgtu Y, Z, @" (λ p to at. AluNone p.b 0b0010 p.a ∷ Jc to ∷ [])
    -- jgeu Ra, Rb, addr → cmp Ra, Rb; jnc addr
    ∷ macro "jgeu Y, Z, @" (λ p to at. AluNone p.a 0b0010 p.b ∷ Jnc to ∷ [])
    -- jgeu Ra, Imm8, addr → cmp Ra, Imm8; jnc addr
    ∷ macro "jgeu Y, #, @" (λ p to at. CmpImm p.a p.imm ∷ Jnc to ∷ [])
    -- jgt Ra, Rb, addr → cmp Rb, Ra; jlt addr
    ∷ macro "jgt Y, Z, @" (λ p to at. AluNone p.b 0b0010 p.a ∷ Jlt to ∷ [])
    -- jge Ra, Rb, addr → cmp Rb, Ra; jle addr
    ∷ macro "jge Y, Z, @" (λ p to at. AluNone p.b 0b0010 p.a ∷ Jle to ∷ [])
    -- jgtu Ra, Imm8, addr → cmp Ra, Imm8; jleu skip(1); jmp addr
    ∷ macro "jgtu Y, #, @" (λ p to at. CmpImm p.a p.imm ∷ Jleu (skip (at + 1)) ∷ Jmp to ∷ [])
    -- jgt Ra, Imm8, addr → cmp Ra, Imm8; jle skip(1); jmp addr
    ∷ macro "jgt Y, #, @" (λ p to at. CmpImm p.a p.imm ∷ Jle (skip (at + 1)) ∷ Jmp to ∷ [])
    -- jge Ra, Imm8, addr → cmp Ra, Imm8; jlt skip(1); jmp addr
    ∷ macro "jge Y, #, @" (λ p to at. CmpImm p.a p.imm ∷ Jlt (skip (at + 1)) ∷ Jmp to ∷ [])
    -- mov LCDcmd, Init → mov LCDcmd, 0x38; mov LCDcmd, 0x0E; mov LCDcmd, 0x06
    ∷ macro "mov LCDcmd, Init" (λ p to at. LcdCmd 0x38 ∷ LcdCmd 0x0E ∷ LcdCmd 0x06 ∷ [])
    ∷ []

-- how many rows the table has, and the first of the macros among them
abbrev pub row_count : ℕ
row_count = 90

abbrev pub first_macro : ℕ
first_macro = 70

-- the table: 003's rows ALU* Rd, Ra, Rb (rows 0 to 15 here), add Rd, Ra, Imm8 (16), ALU* NONE, Ra, Rb (17 to 32) and the others
-- (33 to 69), then the macros (70 to 89)
unfoldable pub spellings : List (List ℕ)
spellings =
    with_destination " X, "
    ++ (ascii "add X, Y, #" ∷ with_destination " NONE, ")
    ++ mapped ascii others
    ++ mapped (λ (m : Macro). ascii m.text) macros

-- the spelling in a row
unfoldable pub pattern_of : ℕ → List ℕ
pattern_of k = get_or spellings k []

-- the row of a form's spelling, by the form's number in 003's table, from 0, and its function
abbrev pub row_with : ℕ → ℕ → ℕ
row_with form f = cond (eqb form 0) f (cond (eqb form 1) 16 (cond (eqb form 2) (17 + f) (30 + form)))

-- and back: the form and the function of a row
abbrev pub form_at : ℕ → ℕ
form_at k = cond (ltb k 16) 0 (cond (eqb k 16) 1 (cond (ltb k 33) 2 (k - 30)))

abbrev pub function_at : ℕ → ℕ
function_at k = cond (ltb k 16) k (cond (eqb k 16) 0 (cond (ltb k 33) (k - 17) 0))

-- the number that a row of 003's table shows, # or @. No row shows both, and what it doesn't show is 0: a line is read into places that hold 0,
-- and the address of one that shows no @ is the 0 there
abbrev pub number_in : Places → ℕ → ℕ
number_in p to = cond (eqb p.imm 0) to p.imm

-- the form of a row of 003's table; a register that the row doesn't show is not there, and R0
unfoldable pub table_form : ℕ → Places → ℕ → Instr
table_form k p to = instr_of ((form_at k, p.d, p.a, function_at k, p.b, number_in p to))

-- the forms of a row, with the address that stands for @, for a line at an address
unfoldable pub forms_of : ℕ → Places → (to at : ℕ) → List Instr
forms_of k p to at =
    cond (ltb k first_macro) (table_form k p to ∷ []) (get_or (mapped (λ (m : Macro). m.forms p to at) macros) (k - first_macro) [])
