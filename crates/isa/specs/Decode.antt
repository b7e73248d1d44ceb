-- Decoding: which row of the instruction table two bytes are, and what its letters stand for.
-- Assumes nothing.
use Rattle.std.specs.Prelude.{ℕ, suc, ◌/◌, ◌%◌, Bool, cond, ◌&&◌, List, [], ◌∷◌, eqb}
use Rattle.isa.specs.Table.{row_of, opcode_in}
use Rattle.isa.specs.declared.Instr.{Instr}
use Rattle.isa.specs.declared.Instr.TheVariants.{Alu, AddImm, AluNone, CmpImm, MaskImm, MaskIn, MovImm, MovIn, Ack, StoreAddr, StoreReg, Push, LoadAddr, LoadReg, Pop, Swap, Jmp, JmpReg, Call, Ret, Jz, Jnz, Jc, Jnc, Jv, Jnv, Jlz, Jp, Jgz, Jleu, Jlt, Jle, LcdCmd, LcdImm, LcdReg, LcdMem, OutReg, OutMem, Hlt, Nop}
use Rattle.isa.specs.declared.Opcode.{Opcode}
use Rattle.isa.specs.declared.Opcode.TheVariants.{DDAA, DDXX, OOAA, OOXX}

-- the forty forms in the table's order, with the same byte at the same letter: D, A, F, B, and I or @
abbrev pub forms : ℕ → ℕ → ℕ → ℕ → ℕ → List Instr
forms d a f b i =
    Alu d a f b
    ∷ AddImm d a i
    ∷ AluNone a f b
    ∷ CmpImm a i
    ∷ MaskImm a i
    ∷ MaskIn i
    ∷ MovImm d i
    ∷ MovIn d
    ∷ Ack
    ∷ StoreAddr a i
    ∷ StoreReg a b
    ∷ Push a
    ∷ LoadAddr d i
    ∷ LoadReg d a
    ∷ Pop d
    ∷ Swap d a
    ∷ Jmp i
    ∷ JmpReg a
    ∷ Call i
    ∷ Ret
    ∷ Jz i
    ∷ Jnz i
    ∷ Jc i
    ∷ Jnc i
    ∷ Jv i
    ∷ Jnv i
    ∷ Jlz i
    ∷ Jp i
    ∷ Jgz i
    ∷ Jleu i
    ∷ Jlt i
    ∷ Jle i
    ∷ LcdCmd i
    ∷ LcdImm i
    ∷ LcdReg a
    ∷ LcdMem i
    ∷ OutReg a
    ∷ OutMem i
    ∷ Hlt
    ∷ Nop
    ∷ []

-- an opcode's upper four bits t and the next two, e, are the four or six fixed bits of a row
abbrev pub matches : ℕ → ℕ → Opcode → Bool
matches t e (DDAA p d a) = eqb t p
matches t e (DDXX p d) = eqb t p
matches t e (OOAA p a) = eqb t (p / 4) && eqb e (p % 4)
matches t e (OOXX p) = eqb t (p / 4) && eqb e (p % 4)

-- how many forms of a list are rows for t and e. 01: "All 256 opcodes are assigned": of the forty, one is
abbrev pub rows_for : ℕ → ℕ → List Instr → ℕ
rows_for t e [] = 0
rows_for t e (i ∷ l) = cond (matches t e (opcode_in (row_of i))) (suc (rows_for t e l)) (rows_for t e l)

-- the first of them
abbrev pub first_for : ℕ → ℕ → List Instr → Instr
first_for t e [] = Nop
first_for t e (i ∷ l) = cond (matches t e (opcode_in (row_of i))) i (first_for t e l)

-- the form with the fixed bits t and d, and with d, a, f, b, i at the letters
unfoldable pub form_of : ℕ → ℕ → ℕ → ℕ → ℕ → ℕ → Instr
form_of t d a f b i = first_for t d (forms d a f b i)

-- 003's bit places: the opcode is 0000DDAA, and the argument FFFFXXBB or IIIIIIII
unfoldable pub decode_of : ℕ → ℕ → Instr
decode_of op arg = form_of (op / 16) (op / 4 % 4) (op % 4) (arg / 16) (arg % 4) arg
