-- What each number at the boundary means: an instruction, an encoder's answer, a result with flags and an instruction's facts as numbers.
-- Assumes nothing.
use Rattle.std.specs.Prelude.{ℕ, Bool, true, false, get_or, Ok, Err}
use Rattle.alu.specs.declared.Computed.{Computed}
use Rattle.alu.specs.declared.Overflow.{Overflow}
use Rattle.alu.specs.declared.Overflow.TheVariants.{Unsettled, Settled}
use Rattle.isa.specs.Decode.{forms}
use Rattle.isa.specs.Encode.{Encoded, number_of}
use Rattle.isa.specs.Facts.{class_of, writes_roll}
use Rattle.isa.specs.Table.{cycles_of}
use Rattle.isa.specs.declared.Class.{Class}
use Rattle.isa.specs.declared.Class.TheVariants as class
use Rattle.isa.specs.declared.Instr.{Instr}
use Rattle.isa.specs.declared.Instr.TheVariants.{Alu, AddImm, AluNone, CmpImm, MaskImm, MaskIn, MovImm, MovIn, Ack, StoreAddr, StoreReg, Push, LoadAddr, LoadReg, Pop, Swap, Jmp, JmpReg, Call, Ret, Jz, Jnz, Jc, Jnc, Jv, Jnv, Jlz, Jp, Jgz, Jleu, Jlt, Jle, LcdCmd, LcdImm, LcdReg, LcdMem, OutReg, OutMem, Hlt, Nop}
use Rattle.isa.specs.declared.OverflowEffect.{OverflowEffect}
use Rattle.isa.specs.declared.OverflowEffect.TheVariants.{Keeps, Settles, Unsettles}
use Rattle.numbers.specs.declared.ComputedNumbers.{ComputedNumbers}
use Rattle.numbers.specs.declared.Encoding.{Encoding}
use Rattle.numbers.specs.declared.FactNumbers.{FactNumbers}
use Rattle.numbers.specs.declared.Fields.{Fields}

-- the row of 003's instruction table, from 0 to 39, then d, a, f, b and the immediate or address; 0 for what the form has not
abbrev pub fields_of : Instr → Fields
fields_of (Alu d a f b) = (0, d, a, f, b, 0)
fields_of (AddImm d a i) = (1, d, a, 0, 0, i)
fields_of (AluNone a f b) = (2, 0, a, f, b, 0)
fields_of (CmpImm a i) = (3, 0, a, 0, 0, i)
fields_of (MaskImm a i) = (4, 0, a, 0, 0, i)
fields_of (MaskIn i) = (5, 0, 0, 0, 0, i)
fields_of (MovImm d i) = (6, d, 0, 0, 0, i)
fields_of (MovIn d) = (7, d, 0, 0, 0, 0)
fields_of Ack = (8, 0, 0, 0, 0, 0)
fields_of (StoreAddr a i) = (9, 0, a, 0, 0, i)
fields_of (StoreReg a b) = (10, 0, a, 0, b, 0)
fields_of (Push a) = (11, 0, a, 0, 0, 0)
fields_of (LoadAddr d i) = (12, d, 0, 0, 0, i)
fields_of (LoadReg d a) = (13, d, a, 0, 0, 0)
fields_of (Pop d) = (14, d, 0, 0, 0, 0)
fields_of (Swap d a) = (15, d, a, 0, 0, 0)
fields_of (Jmp i) = (16, 0, 0, 0, 0, i)
fields_of (JmpReg a) = (17, 0, a, 0, 0, 0)
fields_of (Call i) = (18, 0, 0, 0, 0, i)
fields_of Ret = (19, 0, 0, 0, 0, 0)
fields_of (Jz i) = (20, 0, 0, 0, 0, i)
fields_of (Jnz i) = (21, 0, 0, 0, 0, i)
fields_of (Jc i) = (22, 0, 0, 0, 0, i)
fields_of (Jnc i) = (23, 0, 0, 0, 0, i)
fields_of (Jv i) = (24, 0, 0, 0, 0, i)
fields_of (Jnv i) = (25, 0, 0, 0, 0, i)
fields_of (Jlz i) = (26, 0, 0, 0, 0, i)
fields_of (Jp i) = (27, 0, 0, 0, 0, i)
fields_of (Jgz i) = (28, 0, 0, 0, 0, i)
fields_of (Jleu i) = (29, 0, 0, 0, 0, i)
fields_of (Jlt i) = (30, 0, 0, 0, 0, i)
fields_of (Jle i) = (31, 0, 0, 0, 0, i)
fields_of (LcdCmd i) = (32, 0, 0, 0, 0, i)
fields_of (LcdImm i) = (33, 0, 0, 0, 0, i)
fields_of (LcdReg a) = (34, 0, a, 0, 0, 0)
fields_of (LcdMem i) = (35, 0, 0, 0, 0, i)
fields_of (OutReg a) = (36, 0, a, 0, 0, 0)
fields_of (OutMem i) = (37, 0, 0, 0, 0, i)
fields_of Hlt = (38, 0, 0, 0, 0, 0)
fields_of Nop = (39, 0, 0, 0, 0, 0)

-- the form of that row; a number over 39 is taken as 39
unfoldable pub instr_of : Fields → Instr
instr_of x = get_or (forms x.1 x.2 x.3 x.4 x.5) x.0 Nop

-- 01's number, and the two bytes, 0 where there are none
abbrev pub encoding_of : Encoded → Encoding
encoding_of (Ok bytes) = (0, bytes.0, bytes.1)
encoding_of (Err refusal) = (number_of (Err refusal), 0, 0)

-- V: 0 clear, 1 set, 2 unsettled
abbrev pub overflow_number : Overflow → ℕ
overflow_number (Settled false) = 0
overflow_number (Settled true) = 1
overflow_number Unsettled = 2

-- the result, Z, C, S and V
abbrev pub computed_numbers : Computed → ComputedNumbers
computed_numbers r = (r.value, r.flags.z, r.flags.c, r.flags.s, overflow_number r.flags.v)

-- what an instruction does to V: 0 leaves it, 1 settles it, 2 unsettles it
abbrev pub effect_number : OverflowEffect → ℕ
effect_number Keeps = 0
effect_number Settles = 1
effect_number Unsettles = 2

-- cycles; the class, its address or register, its effect on V and whether it tests V; whether the roll is written
abbrev pub fact_numbers : ℕ → Class → Bool → FactNumbers
fact_numbers n (class.Next e) w = (n, 0, 0, effect_number e, false, w)
fact_numbers n (class.Jump t) w = (n, 1, t, 0, false, w)
fact_numbers n (class.Branch t v) w = (n, 2, t, 0, v, w)
fact_numbers n class.JumpReg w = (n, 3, 0, 0, false, w)
fact_numbers n (class.Call t) w = (n, 4, t, 0, false, w)
fact_numbers n class.Return w = (n, 5, 0, 0, false, w)
fact_numbers n (class.Push a) w = (n, 6, a, 0, false, w)
fact_numbers n class.Pop w = (n, 7, 0, 0, false, w)
fact_numbers n (class.Swap a) w = (n, 8, a, 0, false, w)
fact_numbers n class.Halt w = (n, 9, 0, 0, false, w)

abbrev pub fact_numbers_of : Instr → FactNumbers
fact_numbers_of i = fact_numbers (cycles_of i) (class_of i) (writes_roll i)
