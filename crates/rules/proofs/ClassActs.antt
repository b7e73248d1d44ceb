-- What a step does, by the class of its instruction: to PC, SP and V, to the stack bank, and how it depends on the byte at SP. A line a form.
-- Assumes nothing.
use Prim.Native.Nat.{ℕ, ◌+◌}
use mathlib.Core.Path.{◌≡◌, refl, ◌∙◌}
use mathlib.Core.Logic.{◌⊎◌, inl, inr}
use mathlib.Core.List.{List, [], ◌∷◌}
use mathlib.Core.Bool.{Bool, true, false, not, cond, ◌&&◌, ◌||◌}
use lib.Dec.{ltb}
use lib.ListN.{length, get_or, set}
use Rattle.alu.specs.Alu.{alu_of, is_settled, settles_of}
use Rattle.alu.specs.declared.Overflow.{Overflow}
use Rattle.alu.proofs.SettlesAlike.{settles_alike}
use Rattle.isa.specs.Facts.{effect_of, class_of}
use Rattle.isa.specs.declared.Class.{Class}
use Rattle.isa.specs.declared.Class.TheVariants as class
use Rattle.isa.specs.declared.Instr.{Instr}
use Rattle.isa.specs.declared.Instr.TheVariants.{Alu, AddImm, AluNone, CmpImm, MaskImm, MaskIn, MovImm, MovIn, Ack, StoreAddr, StoreReg, Push, LoadAddr, LoadReg, Pop, Swap, Jmp, JmpReg, Call, Ret, Jz, Jnz, Jc, Jnc, Jv, Jnv, Jlz, Jp, Jgz, Jleu, Jlt, Jle, LcdCmd, LcdImm, LcdReg, LcdMem, OutReg, OutMem, Hlt, Nop}
use Rattle.isa.specs.declared.OverflowEffect.{OverflowEffect}
use Rattle.isa.specs.declared.OverflowEffect.TheVariants.{Keeps, Settles, Unsettles}
use Rattle.model.specs.Plan.{value_of, differ, plan_of}
use Rattle.model.specs.State.{next_address, sp_after_push, sp_after_pop, register, with_pc, with_position}
use Rattle.model.specs.Step.{fetched, stack_after}
use Rattle.model.specs.declared.State.{State}
use Rattle.slices.proofs.Bools.{by_test}
use Rattle.rules.specs.Tally.{Store, stores_of}

-- what an effect does to V
abbrev pub VActs : OverflowEffect → Overflow → Overflow → Type 0
VActs Keeps v v' = v' ≡ v
VActs Settles v v' = is_settled v' ≡ true
VActs Unsettles v v' = Unit {0}

pub record Moves (s' : State) (pc sp : ℕ) : Type 0 where
  pub pc_is : s'.pc ≡ pc
  pub sp_is : s'.sp ≡ sp

-- what a step of a class does to PC, SP and V; top is the byte at SP
abbrev pub Acts : Class → ℕ → State → State → Type 0
Acts (class.Next e) top s s' = Moves s' (next_address s.pc) s.sp × VActs e s.flags.v s'.flags.v
Acts (class.Jump a) top s s' = Moves s' a s.sp × (s'.flags.v ≡ s.flags.v)
Acts (class.Branch a n) top s s' = (Moves s' a s.sp ⊎ Moves s' (next_address s.pc) s.sp) × (s'.flags.v ≡ s.flags.v)
Acts class.JumpReg top s s' = Unit {0}
Acts (class.Call a) top s s' = Moves s' a (sp_after_push s.sp) × (s'.flags.v ≡ s.flags.v)
Acts class.Return top s s' = Moves s' top (sp_after_pop s.sp) × (s'.flags.v ≡ s.flags.v)
Acts (class.Push r) top s s' = Moves s' (next_address s.pc) (sp_after_push s.sp) × (s'.flags.v ≡ s.flags.v)
Acts class.Pop top s s' = Moves s' (next_address s.pc) (sp_after_pop s.sp) × (s'.flags.v ≡ s.flags.v)
Acts (class.Swap r) top s s' = Moves s' (next_address s.pc) s.sp × (s'.flags.v ≡ s.flags.v)
Acts class.Halt top s s' = (s'.halted ≡ true) × (s'.sp ≡ s.sp)

moves : {s' : State} {pc sp : ℕ} → s'.pc ≡ pc → s'.sp ≡ sp → Moves s' pc sp
moves p q = record { pc_is = p; sp_is = q }

-- the ALU settles V where its function does
alu_acts : (f x y : ℕ) (c : Bool) (v : Overflow) → VActs (effect_of f) v (alu_of f x y c).flags.v
alu_acts f x y c v = by_test (settles_of f) (λ q. rw q (settles_alike f x y c ∙ q)) (λ q. rw q tt)

fork_acts : (s : State) (t : Bool) (a : ℕ)
    → (Moves (cond t (with_pc (fetched s) a) (fetched s)) a s.sp ⊎ Moves (cond t (with_pc (fetched s) a) (fetched s)) (next_address s.pc) s.sp)
    × ((cond t (with_pc (fetched s) a) (fetched s)).flags.v ≡ s.flags.v)
fork_acts s true a = (inl (moves refl refl), refl)
fork_acts s false a = (inr (moves refl refl), refl)

ack_acts : (s : State) (t : Bool)
    → Moves (cond t (with_position (fetched s) (s.position + 1)) (fetched s)) (next_address s.pc) s.sp
    × ((cond t (with_position (fetched s) (s.position + 1)) (fetched s)).flags.v ≡ s.flags.v)
ack_acts s true = (moves refl refl, refl)
ack_acts s false = (moves refl refl, refl)

abbrev pub stored : List Store → List ℕ → List ℕ
stored [] st = st
stored (x ∷ xs) st = stored xs (set st x.at x.byte')

-- whether a class reads the byte at SP
abbrev pub reads_top : Class → Bool
reads_top (class.Next e) = false
reads_top (class.Jump a) = false
reads_top (class.Branch a n) = false
reads_top class.JumpReg = false
reads_top (class.Call a) = false
reads_top class.Return = true
reads_top (class.Push r) = false
reads_top class.Pop = true
reads_top (class.Swap r) = true
reads_top class.Halt = false

module _ (s : State) (top : ℕ) (ram keys : List ℕ) where
  -- every form acts as its class says
  pub acts : (i : Instr) → Acts (class_of i) top s (plan_of (fetched s) top ram keys i).state
  acts (Alu d a f b) = (moves refl refl, alu_acts f (register s a) (register s b) s.flags.c s.flags.v)
  acts (AddImm d a i) = (moves refl refl, alu_acts 0b0001 (register s a) i s.flags.c s.flags.v)
  acts (AluNone a f b) = (moves refl refl, alu_acts f (register s a) (register s b) s.flags.c s.flags.v)
  acts (CmpImm a i) = (moves refl refl, alu_acts 0b0010 (register s a) i s.flags.c s.flags.v)
  acts (MaskImm a i) = (moves refl refl, alu_acts 0b0101 (register s a) i s.flags.c s.flags.v)
  acts (MaskIn i) = (moves refl refl, alu_acts 0b0101 (get_or keys s.position 0) i s.flags.c s.flags.v)
  acts (MovImm d i) = (moves refl refl, refl)
  acts (MovIn d) = (moves refl refl, refl)
  acts Ack = ack_acts s (ltb s.position (length keys))
  acts (StoreAddr a i) = (moves refl refl, refl)
  acts (StoreReg a b) = (moves refl refl, refl)
  acts (Push a) = (moves refl refl, refl)
  acts (LoadAddr d i) = (moves refl refl, refl)
  acts (LoadReg d a) = (moves refl refl, refl)
  acts (Pop d) = (moves refl refl, refl)
  acts (Swap d a) = (moves refl refl, refl)
  acts (Jmp i) = (moves refl refl, refl)
  acts (JmpReg a) = tt
  acts (Call i) = (moves refl refl, refl)
  acts Ret = (moves refl refl, refl)
  acts (Jz i) = fork_acts s s.flags.z i
  acts (Jnz i) = fork_acts s (not s.flags.z) i
  acts (Jc i) = fork_acts s s.flags.c i
  acts (Jnc i) = fork_acts s (not s.flags.c) i
  acts (Jv i) = fork_acts s (value_of s.flags.v) i
  acts (Jnv i) = fork_acts s (not (value_of s.flags.v)) i
  acts (Jlz i) = fork_acts s s.flags.s i
  acts (Jp i) = fork_acts s (not s.flags.s) i
  acts (Jgz i) = fork_acts s (not s.flags.s && not s.flags.z) i
  acts (Jleu i) = fork_acts s (s.flags.z || s.flags.c) i
  acts (Jlt i) = fork_acts s (differ (value_of s.flags.v) s.flags.s) i
  acts (Jle i) = fork_acts s (differ (value_of s.flags.v) s.flags.s || s.flags.z) i
  acts (LcdCmd i) = (moves refl refl, refl)
  acts (LcdImm i) = (moves refl refl, refl)
  acts (LcdReg a) = (moves refl refl, refl)
  acts (LcdMem i) = (moves refl refl, refl)
  acts (OutReg a) = (moves refl refl, refl)
  acts (OutMem i) = (moves refl refl, refl)
  acts Hlt = (refl, refl)
  acts Nop = (moves refl refl, refl)

  -- and stores to the stack bank what its class says
  pub stores : (i : Instr) (st : List ℕ) → stack_after (plan_of (fetched s) top ram keys i).write st ≡ stored (stores_of (class_of i) s) st
  unfolding stores_of
  stores (Alu d a f b) st = refl
  stores (AddImm d a i) st = refl
  stores (AluNone a f b) st = refl
  stores (CmpImm a i) st = refl
  stores (MaskImm a i) st = refl
  stores (MaskIn i) st = refl
  stores (MovImm d i) st = refl
  stores (MovIn d) st = refl
  stores Ack st = refl
  stores (StoreAddr a i) st = refl
  stores (StoreReg a b) st = refl
  stores (Push a) st = refl
  stores (LoadAddr d i) st = refl
  stores (LoadReg d a) st = refl
  stores (Pop d) st = refl
  stores (Swap d a) st = refl
  stores (Jmp i) st = refl
  stores (JmpReg a) st = refl
  stores (Call i) st = refl
  stores Ret st = refl
  stores (Jz i) st = refl
  stores (Jnz i) st = refl
  stores (Jc i) st = refl
  stores (Jnc i) st = refl
  stores (Jv i) st = refl
  stores (Jnv i) st = refl
  stores (Jlz i) st = refl
  stores (Jp i) st = refl
  stores (Jgz i) st = refl
  stores (Jleu i) st = refl
  stores (Jlt i) st = refl
  stores (Jle i) st = refl
  stores (LcdCmd i) st = refl
  stores (LcdImm i) st = refl
  stores (LcdReg a) st = refl
  stores (LcdMem i) st = refl
  stores (OutReg a) st = refl
  stores (OutMem i) st = refl
  stores Hlt st = refl
  stores Nop st = refl

-- a plan depends on the stack by the byte at SP alone, and only where the class reads it
module _ (s : State) (top top' : ℕ) (ram keys : List ℕ) where
  pub plan_same : (i : Instr) → (reads_top (class_of i) ≡ true → top ≡ top')
      → plan_of (fetched s) top ram keys i ≡ plan_of (fetched s) top' ram keys i
  plan_same (Alu d a f b) h = refl
  plan_same (AddImm d a i) h = refl
  plan_same (AluNone a f b) h = refl
  plan_same (CmpImm a i) h = refl
  plan_same (MaskImm a i) h = refl
  plan_same (MaskIn i) h = refl
  plan_same (MovImm d i) h = refl
  plan_same (MovIn d) h = refl
  plan_same Ack h = refl
  plan_same (StoreAddr a i) h = refl
  plan_same (StoreReg a b) h = refl
  plan_same (Push a) h = refl
  plan_same (LoadAddr d i) h = refl
  plan_same (LoadReg d a) h = refl
  plan_same (Pop d) h = rw (h refl)
  plan_same (Swap d a) h = rw (h refl)
  plan_same (Jmp i) h = refl
  plan_same (JmpReg a) h = refl
  plan_same (Call i) h = refl
  plan_same Ret h = rw (h refl)
  plan_same (Jz i) h = refl
  plan_same (Jnz i) h = refl
  plan_same (Jc i) h = refl
  plan_same (Jnc i) h = refl
  plan_same (Jv i) h = refl
  plan_same (Jnv i) h = refl
  plan_same (Jlz i) h = refl
  plan_same (Jp i) h = refl
  plan_same (Jgz i) h = refl
  plan_same (Jleu i) h = refl
  plan_same (Jlt i) h = refl
  plan_same (Jle i) h = refl
  plan_same (LcdCmd i) h = refl
  plan_same (LcdImm i) h = refl
  plan_same (LcdReg a) h = refl
  plan_same (LcdMem i) h = refl
  plan_same (OutReg a) h = refl
  plan_same (OutMem i) h = refl
  plan_same Hlt h = refl
  plan_same Nop h = refl
