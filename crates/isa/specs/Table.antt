-- 003, 'INSTRUCTION TABLE': a clause for each of its forty rows, in its order, with the row's machine code and cycles. Letters as there:
-- D destination, O opcode, A first operand, B second operand, F function, I immediate or address (there also @), X free.
-- 01: "The instruction table decides over the detailed rows"; "where the table shows no second byte, it is the address".
-- Assumes nothing.
use Rattle.std.specs.Prelude.{ℕ}
use Rattle.isa.specs.declared.Instr.{Instr}
use Rattle.isa.specs.declared.Instr.TheVariants.{Alu, AddImm, AluNone, CmpImm, MaskImm, MaskIn, MovImm, MovIn, Ack, StoreAddr, StoreReg, Push, LoadAddr, LoadReg, Pop, Swap, Jmp, JmpReg, Call, Ret, Jz, Jnz, Jc, Jnc, Jv, Jnv, Jlz, Jp, Jgz, Jleu, Jlt, Jle, LcdCmd, LcdImm, LcdReg, LcdMem, OutReg, OutMem, Hlt, Nop}
use Rattle.isa.specs.declared.Opcode.{Opcode}
use Rattle.isa.specs.declared.Opcode.TheVariants.{DDAA, DDXX, OOAA, OOXX}
use Rattle.isa.specs.declared.Argument.{Argument}
use Rattle.isa.specs.declared.Argument.TheVariants.{FFFFXXBB, IIIIIIII, XXXXXXBB, XXXXXXXX}
use Rattle.isa.specs.declared.Row.{Row}

abbrev pub row : Opcode → Argument → ℕ → Row
row o g n = (o, g, n)

abbrev pub row_of : Instr → Row
-- ALU* Rd, Ra, Rb
row_of (Alu d a f b) = row (DDAA 0b0000 d a) (FFFFXXBB f b) 4
-- add Rd, Ra, Imm8
row_of (AddImm d a i) = row (DDAA 0b0001 d a) (IIIIIIII i) 4
-- ALU* NONE, Ra, Rb
row_of (AluNone a f b) = row (OOAA 0b001000 a) (FFFFXXBB f b) 3
-- cmp Ra, Imm8
row_of (CmpImm a i) = row (OOAA 0b001001 a) (IIIIIIII i) 3
-- mask Ra, Imm8
row_of (MaskImm a i) = row (OOAA 0b001010 a) (IIIIIIII i) 3
-- mask IN, Imm8
row_of (MaskIn i) = row (OOXX 0b001011) (IIIIIIII i) 5
-- mov Rd, Imm8
row_of (MovImm d i) = row (DDXX 0b0011 d) (IIIIIIII i) 3
-- mov Rd, IN
row_of (MovIn d) = row (DDXX 0b0100 d) XXXXXXXX 4
-- mov IN, Ack
row_of Ack = row (OOXX 0b010100) XXXXXXXX 3
-- mov [Addr8], Ra
row_of (StoreAddr a i) = row (OOAA 0b010101 a) (IIIIIIII i) 4
-- mov [Rb], Ra
row_of (StoreReg a b) = row (OOAA 0b010110 a) (XXXXXXBB b) 5
-- push Ra
row_of (Push a) = row (OOAA 0b010111 a) XXXXXXXX 5
-- mov Rd, [Addr8]
row_of (LoadAddr d i) = row (DDXX 0b0110 d) (IIIIIIII i) 4
-- mov Rd, [Ra]
row_of (LoadReg d a) = row (DDAA 0b0111 d a) XXXXXXXX 4
-- pop Rd
row_of (Pop d) = row (DDXX 0b1000 d) XXXXXXXX 4
-- swap Rd, Ra
row_of (Swap d a) = row (DDAA 0b1001 d a) XXXXXXXX 5
-- jmp Addr8
row_of (Jmp i) = row (OOXX 0b101000) (IIIIIIII i) 3
-- jmp Ra
row_of (JmpReg a) = row (OOAA 0b101001 a) XXXXXXXX 3
-- call Addr8
row_of (Call i) = row (OOXX 0b101010) (IIIIIIII i) 6
-- ret
row_of Ret = row (OOXX 0b101011) XXXXXXXX 4
-- jz Addr8
row_of (Jz i) = row (OOXX 0b101100) (IIIIIIII i) 3
-- jnz Addr8
row_of (Jnz i) = row (OOXX 0b101101) (IIIIIIII i) 3
-- jc Addr8
row_of (Jc i) = row (OOXX 0b101110) (IIIIIIII i) 3
-- jnc Addr8
row_of (Jnc i) = row (OOXX 0b101111) (IIIIIIII i) 3
-- jv Addr8
row_of (Jv i) = row (OOXX 0b110000) (IIIIIIII i) 3
-- jnv Addr8
row_of (Jnv i) = row (OOXX 0b110001) (IIIIIIII i) 3
-- jlz Addr8
row_of (Jlz i) = row (OOXX 0b110010) (IIIIIIII i) 3
-- jp Addr8
row_of (Jp i) = row (OOXX 0b110011) (IIIIIIII i) 3
-- jgz Addr8
row_of (Jgz i) = row (OOXX 0b110100) (IIIIIIII i) 3
-- jleu Addr8
row_of (Jleu i) = row (OOXX 0b110101) (IIIIIIII i) 3
-- jlt Addr8
row_of (Jlt i) = row (OOXX 0b110110) (IIIIIIII i) 3
-- jle Addr8
row_of (Jle i) = row (OOXX 0b110111) (IIIIIIII i) 3
-- mov LCDcmd, Imm8
row_of (LcdCmd i) = row (OOXX 0b111000) (IIIIIIII i) 3
-- mov LCD, Imm8
row_of (LcdImm i) = row (OOXX 0b111001) (IIIIIIII i) 3
-- mov LCD, Ra
row_of (LcdReg a) = row (OOAA 0b111010 a) XXXXXXXX 3
-- mov LCD, [Addr8]
row_of (LcdMem i) = row (OOXX 0b111011) (IIIIIIII i) 4
-- mov OUT, Ra
row_of (OutReg a) = row (OOAA 0b111100 a) XXXXXXXX 3
-- mov OUT, [Addr8]
row_of (OutMem i) = row (OOXX 0b111101) (IIIIIIII i) 4
-- hlt
row_of Hlt = row (OOXX 0b111110) XXXXXXXX 2
-- nop
row_of Nop = row (OOXX 0b111111) XXXXXXXX 8

abbrev pub opcode_in : Row → Opcode
opcode_in r = r.0

abbrev pub argument_in : Row → Argument
argument_in r = r.1

-- 01: "Cycles are 003's column"
abbrev pub cycles_of : Instr → ℕ
cycles_of i = (row_of i).2
