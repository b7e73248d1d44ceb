-- What each instruction does, as a plan on values: the next state, and at most one write. A clause a form in 003's order, with the right-hand
-- column of 003's detailed rows beside it.
-- Assumes nothing.
use Rattle.std.specs.Prelude.{ℕ, ◌+◌, Bool, true, false, not, cond, ◌&&◌, ◌||◌, List, ltb, length, get_or}
use Rattle.std.specs.Bool.{beq}
use Rattle.alu.specs.Alu.{alu_of}
use Rattle.alu.specs.declared.Computed.{Computed}
use Rattle.alu.specs.declared.Overflow.{Overflow}
use Rattle.alu.specs.declared.Overflow.TheVariants.{Unsettled, Settled}
use Rattle.isa.specs.declared.Instr.{Instr}
use Rattle.isa.specs.declared.Instr.TheVariants.{Alu, AddImm, AluNone, CmpImm, MaskImm, MaskIn, MovImm, MovIn, Ack, StoreAddr, StoreReg, Push, LoadAddr, LoadReg, Pop, Swap, Jmp, JmpReg, Call, Ret, Jz, Jnz, Jc, Jnc, Jv, Jnv, Jlz, Jp, Jgz, Jleu, Jlt, Jle, LcdCmd, LcdImm, LcdReg, LcdMem, OutReg, OutMem, Hlt, Nop}
use Rattle.model.specs.State.{sp_after_push, sp_after_pop, register, with_register, with_pc, with_sp, with_out, with_flags, with_halted, with_position}
use Rattle.model.specs.declared.State.{State}
use Rattle.model.specs.declared.Write.{Write}
use Rattle.model.specs.declared.Write.TheVariants.{Nothing, Data, Stack, Roll}

pub record Plan : Type 0 where
  pub state : State
  pub write : Write

abbrev pub plan : State → Write → Plan
plan s w = record { state = s; write = w }

abbrev pub no_write : State → Plan
no_write s = plan s Nothing

-- V as a bool. Only jv, jnv, jlt and jle ask for it, and a run stops before these where V is unsettled, so no promise rests on what stands
-- here for an unsettled V
abbrev pub value_of : Overflow → Bool
value_of (Settled v) = v
value_of Unsettled = false

abbrev pub differ : Bool → Bool → Bool
differ a b = not (beq a b)

-- SP minus one modulo 256, then the byte is stored at SP
abbrev pub pushed : ℕ → State → Plan
pushed v s = plan (with_sp s (sp_after_push s.sp)) (Stack (sp_after_push s.sp) v)

-- s is the state after the fetch, its PC one past the instruction; top is the byte at SP, ram the data bank
module _ (s : State) (top : ℕ) (ram keys : List ℕ) where
  abbrev pub reg : ℕ → ℕ
  reg r = register s r

  abbrev pub cell : ℕ → ℕ
  cell a = get_or ram a 0

  -- 01: "The input register is the key at that position, 0 past the end"
  abbrev pub key : ℕ
  key = get_or keys s.position 0

  abbrev pub z_flag : Bool
  z_flag = s.flags.z

  abbrev pub c_flag : Bool
  c_flag = s.flags.c

  abbrev pub s_flag : Bool
  s_flag = s.flags.s

  abbrev pub v_flag : Bool
  v_flag = value_of s.flags.v

  -- a result of the ALU: the flags, and the register
  abbrev pub flagged : Computed → Plan
  flagged r = no_write (with_flags s r.flags)

  abbrev pub computed : ℕ → Computed → Plan
  computed d r = no_write (with_register (with_flags s r.flags) d r.value)

  abbrev pub moved : ℕ → ℕ → Plan
  moved d v = no_write (with_register s d v)

  -- 01: "Ack moves the position by one unless it is at the end"
  abbrev pub acknowledged : Plan
  acknowledged = no_write (cond (ltb s.position (length keys)) (with_position s (s.position + 1)) s)

  abbrev pub stored : ℕ → ℕ → Plan
  stored a v = plan s (Data a v)

  -- 01: "the byte at SP is read, then SP plus one modulo 256"
  abbrev pub popped : ℕ → Plan
  popped d = no_write (with_register (with_sp s (sp_after_pop s.sp)) d top)

  -- 01: "swap puts Ra's old byte at SP and the old byte there in Rd; SP stays"
  abbrev pub swapped : ℕ → ℕ → Plan
  swapped d v = plan (with_register s d top) (Stack s.sp v)

  abbrev pub jumped : Bool → ℕ → Plan
  jumped b a = no_write (cond b (with_pc s a) s)

  -- 01: "`call` stores the address after itself modulo 256"
  abbrev pub called : ℕ → Plan
  called a = pushed s.pc (with_pc s a)

  abbrev pub returned : Plan
  returned = no_write (with_pc (with_sp s (sp_after_pop s.sp)) top)

  -- 01: "the byte for data, 256 more for a command"
  abbrev pub sent : ℕ → Plan
  sent w = plan s (Roll w)

  abbrev pub shown : ℕ → Plan
  shown v = no_write (with_out s v)

  abbrev pub stopped : Plan
  stopped = no_write (with_halted s true)

  abbrev pub plan_of : Instr → Plan
  -- ALU* Rd, Ra, Rb: Rd = ALU(Ra, Rb), flags
  plan_of (Alu d a f b) = computed d (alu_of f (reg a) (reg b) c_flag)
  -- add Rd, Ra, Imm8: Rd = Ra + Imm8, flags
  plan_of (AddImm d a i) = computed d (alu_of 0b0001 (reg a) i c_flag)
  -- ALU* NONE, Ra, Rb: ALU(Ra, Rb), flags
  plan_of (AluNone a f b) = flagged (alu_of f (reg a) (reg b) c_flag)
  -- cmp Ra, Imm8: Ra - Imm8, flags
  plan_of (CmpImm a i) = flagged (alu_of 0b0010 (reg a) i c_flag)
  -- mask Ra, Imm8: Ra & Imm8, flags
  plan_of (MaskImm a i) = flagged (alu_of 0b0101 (reg a) i c_flag)
  -- mask IN, Imm8: IN_Reg & Imm8, flags
  plan_of (MaskIn i) = flagged (alu_of 0b0101 key i c_flag)
  -- mov Rd, Imm8: Rd = Imm8
  plan_of (MovImm d i) = moved d i
  -- mov Rd, IN: Rd = IN_Reg
  plan_of (MovIn d) = moved d key
  -- mov IN, Ack: IN_Reg <- Ack
  plan_of Ack = acknowledged
  -- mov [Addr8], Ra: RAM[Addr8] = Ra
  plan_of (StoreAddr a i) = stored i (reg a)
  -- mov [Rb], Ra: RAM[Rb] = Ra
  plan_of (StoreReg a b) = stored (reg b) (reg a)
  -- push Ra: Stack <- Ra
  plan_of (Push a) = pushed (reg a) s
  -- mov Rd, [Addr8]: Rd = RAM[Addr8]
  plan_of (LoadAddr d i) = moved d (cell i)
  -- mov Rd, [Ra]: Rd = RAM[Ra]
  plan_of (LoadReg d a) = moved d (cell (reg a))
  -- pop Rd: Rd <- Stack
  plan_of (Pop d) = popped d
  -- swap Rd, Ra: Rd <- Stack <- Ra
  plan_of (Swap d a) = swapped d (reg a)
  -- jmp Addr8: PC = Addr8
  plan_of (Jmp i) = jumped true i
  -- jmp Ra: PC = Ra
  plan_of (JmpReg a) = jumped true (reg a)
  -- call Addr8: Stack <- next, PC = Addr8
  plan_of (Call i) = called i
  -- ret: PC <- Stack
  plan_of Ret = returned
  -- jz Addr8: if(Z) PC = Addr8
  plan_of (Jz i) = jumped z_flag i
  -- jnz Addr8: if(!Z) PC = Addr8
  plan_of (Jnz i) = jumped (not z_flag) i
  -- jc Addr8: if(C) PC = Addr8
  plan_of (Jc i) = jumped c_flag i
  -- jnc Addr8: 01: "jnc tests C clear"
  plan_of (Jnc i) = jumped (not c_flag) i
  -- jv Addr8: if(V) PC = Addr8
  plan_of (Jv i) = jumped v_flag i
  -- jnv Addr8: 01: "jnv V clear"
  plan_of (Jnv i) = jumped (not v_flag) i
  -- jlz Addr8: 01: "jlz bit 7 set"
  plan_of (Jlz i) = jumped s_flag i
  -- jp Addr8: 01: "jp bit 7 clear"
  plan_of (Jp i) = jumped (not s_flag) i
  -- jgz Addr8: if(!S & !Z) PC = Addr8
  plan_of (Jgz i) = jumped (not s_flag && not z_flag) i
  -- jleu Addr8: Z or C
  plan_of (Jleu i) = jumped (z_flag || c_flag) i
  -- jlt Addr8: V xor S
  plan_of (Jlt i) = jumped (differ v_flag s_flag) i
  -- jle Addr8: if((V^S) | Z) PC = Addr8
  plan_of (Jle i) = jumped (differ v_flag s_flag || z_flag) i
  -- mov LCDcmd, Imm8: LCD[Command] <- Imm8
  plan_of (LcdCmd i) = sent (256 + i)
  -- mov LCD, Imm8: LCD[Data] <- Imm8
  plan_of (LcdImm i) = sent i
  -- mov LCD, Ra: LCD[Data] <- Ra
  plan_of (LcdReg a) = sent (reg a)
  -- mov LCD, [Addr8]: LCD[Data] <- RAM[Addr8]
  plan_of (LcdMem i) = sent (cell i)
  -- mov OUT, Ra: OUT_Reg <- Ra
  plan_of (OutReg a) = shown (reg a)
  -- mov OUT, [Addr8]: OUT_Reg <- RAM[Addr8]
  plan_of (OutMem i) = shown (cell i)
  -- hlt: halts, PC one past itself
  plan_of Hlt = stopped
  -- nop: nothing
  plan_of Nop = no_write s
