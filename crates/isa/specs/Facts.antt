-- What later layers ask of an instruction: how it goes on, what it does to V, and whether it writes to the roll. A clause a form.
-- Assumes nothing.
use Rattle.std.specs.Prelude.{ℕ, Bool, true, false, cond}
use Rattle.alu.specs.Alu.{settles_of}
use Rattle.isa.specs.declared.Class.{Class}
use Rattle.isa.specs.declared.Class.TheVariants as class
use Rattle.isa.specs.declared.Facts.{Facts}
use Rattle.isa.specs.declared.Instr.{Instr}
use Rattle.isa.specs.declared.Instr.TheVariants.{Alu, AddImm, AluNone, CmpImm, MaskImm, MaskIn, MovImm, MovIn, Ack, StoreAddr, StoreReg, Push, LoadAddr, LoadReg, Pop, Swap, Jmp, JmpReg, Call, Ret, Jz, Jnz, Jc, Jnc, Jv, Jnv, Jlz, Jp, Jgz, Jleu, Jlt, Jle, LcdCmd, LcdImm, LcdReg, LcdMem, OutReg, OutMem, Hlt, Nop}
use Rattle.isa.specs.declared.OverflowEffect.{OverflowEffect}
use Rattle.isa.specs.declared.OverflowEffect.TheVariants.{Keeps, Settles, Unsettles}

-- `settles` says which ALU functions settle V
module _ (settles : ℕ → Bool) where
  -- what ALU function f does to V
  abbrev pub effect_by : ℕ → OverflowEffect
  effect_by f = cond (settles f) Settles Unsettles

  -- 01: "V: signed overflow for .. add Imm8 and cmp Imm8", functions add and sub; "Masks follow `and`"; "Other instructions leave flags as
  -- they were"; jv, jnv, jlt and jle test V; "LCD transfers go to a lent roll"
  abbrev pub facts_by : Instr → Facts
  facts_by (Alu d a f b) = ((class.Next (effect_by f)), false)
  facts_by (AddImm d a i) = ((class.Next (effect_by 0b0001)), false)
  facts_by (AluNone a f b) = ((class.Next (effect_by f)), false)
  facts_by (CmpImm a i) = ((class.Next (effect_by 0b0010)), false)
  facts_by (MaskImm a i) = ((class.Next (effect_by 0b0101)), false)
  facts_by (MaskIn i) = ((class.Next (effect_by 0b0101)), false)
  facts_by (MovImm d i) = ((class.Next Keeps), false)
  facts_by (MovIn d) = ((class.Next Keeps), false)
  facts_by Ack = ((class.Next Keeps), false)
  facts_by (StoreAddr a i) = ((class.Next Keeps), false)
  facts_by (StoreReg a b) = ((class.Next Keeps), false)
  facts_by (Push a) = ((class.Push a), false)
  facts_by (LoadAddr d i) = ((class.Next Keeps), false)
  facts_by (LoadReg d a) = ((class.Next Keeps), false)
  facts_by (Pop d) = (class.Pop, false)
  facts_by (Swap d a) = ((class.Swap a), false)
  facts_by (Jmp i) = ((class.Jump i), false)
  facts_by (JmpReg a) = (class.JumpReg, false)
  facts_by (Call i) = ((class.Call i), false)
  facts_by Ret = (class.Return, false)
  facts_by (Jz i) = ((class.Branch i false), false)
  facts_by (Jnz i) = ((class.Branch i false), false)
  facts_by (Jc i) = ((class.Branch i false), false)
  facts_by (Jnc i) = ((class.Branch i false), false)
  facts_by (Jv i) = ((class.Branch i true), false)
  facts_by (Jnv i) = ((class.Branch i true), false)
  facts_by (Jlz i) = ((class.Branch i false), false)
  facts_by (Jp i) = ((class.Branch i false), false)
  facts_by (Jgz i) = ((class.Branch i false), false)
  facts_by (Jleu i) = ((class.Branch i false), false)
  facts_by (Jlt i) = ((class.Branch i true), false)
  facts_by (Jle i) = ((class.Branch i true), false)
  facts_by (LcdCmd i) = ((class.Next Keeps), true)
  facts_by (LcdImm i) = ((class.Next Keeps), true)
  facts_by (LcdReg a) = ((class.Next Keeps), true)
  facts_by (LcdMem i) = ((class.Next Keeps), true)
  facts_by (OutReg a) = ((class.Next Keeps), false)
  facts_by (OutMem i) = ((class.Next Keeps), false)
  facts_by Hlt = (class.Halt, false)
  facts_by Nop = ((class.Next Keeps), false)

  abbrev pub class_by : Instr → Class
  class_by i = (facts_by i).0

-- by the function table
abbrev pub effect_of : ℕ → OverflowEffect
effect_of f = effect_by settles_of f

abbrev pub facts_of : Instr → Facts
facts_of i = facts_by settles_of i

abbrev pub class_of : Instr → Class
class_of i = (facts_of i).0

abbrev pub writes_roll : Instr → Bool
writes_roll i = (facts_of i).1
