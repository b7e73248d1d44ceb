-- The conditional jumps are the forms at places 20 to 31 of the enum, and no others.
-- Assumes nothing.
use Prim.Native.Nat.{ℕ}
use mathlib.Core.Bool.{not}
use mathlib.Core.List.{List, [], ◌∷◌}
use mathlib.Core.Logic.{◌⊎◌, inl, inr}
use lib.Dec.{T}
use mir.Val.{has_key}
use types.Run.{OneOf, miss}
use denote.Enum.Declared.{tag_of}
use Rattle.isa.specs.Facts.{class_of}
use Rattle.isa.specs.declared.Instr.{Instr}
use Rattle.isa.specs.declared.Instr.TheVariants.{Alu, AddImm, AluNone, CmpImm, MaskImm, MaskIn, MovImm, MovIn, Ack, StoreAddr, StoreReg, Push, LoadAddr, LoadReg, Pop, Swap, Jmp, JmpReg, Call, Ret, Jz, Jnz, Jc, Jnc, Jv, Jnv, Jlz, Jp, Jgz, Jleu, Jlt, Jle, LcdCmd, LcdImm, LcdReg, LcdMem, OutReg, OutMem, Hlt, Nop}
use Rattle.isa.specs.contracts.Instr.{the_type}
use Rattle.branches.specs.internal.Branches.{IsBranch}

abbrev branches : List ℕ
branches = 20 ∷ 21 ∷ 22 ∷ 23 ∷ 24 ∷ 25 ∷ 26 ∷ 27 ∷ 28 ∷ 29 ∷ 30 ∷ 31 ∷ []

abbrev unconditional : List ℕ
unconditional = 0 ∷ 1 ∷ 2 ∷ 3 ∷ 4 ∷ 5 ∷ 6 ∷ 7 ∷ 8 ∷ 9 ∷ 10 ∷ 11 ∷ 12 ∷ 13 ∷ 14 ∷ 15 ∷ 16 ∷ 17 ∷ 18 ∷ 19 ∷ 32 ∷ 33 ∷ 34 ∷ 35 ∷ 36 ∷ 37 ∷ 38 ∷ 39 ∷ []

-- a conditional jump is at no other place, and another form at none of theirs
by_tag : (i : Instr) → (IsBranch (class_of i) × T (not (has_key unconditional (tag_of the_type i)))) ⊎ ((IsBranch (class_of i) → ⊥) × T (not (has_key branches (tag_of the_type i))))
by_tag (Alu d a f b) = inr ((λ b. b), tt)
by_tag (AddImm d a i) = inr ((λ b. b), tt)
by_tag (AluNone a f b) = inr ((λ b. b), tt)
by_tag (CmpImm a i) = inr ((λ b. b), tt)
by_tag (MaskImm a i) = inr ((λ b. b), tt)
by_tag (MaskIn i) = inr ((λ b. b), tt)
by_tag (MovImm d i) = inr ((λ b. b), tt)
by_tag (MovIn d) = inr ((λ b. b), tt)
by_tag Ack = inr ((λ b. b), tt)
by_tag (StoreAddr a i) = inr ((λ b. b), tt)
by_tag (StoreReg a b) = inr ((λ b. b), tt)
by_tag (Push a) = inr ((λ b. b), tt)
by_tag (LoadAddr d i) = inr ((λ b. b), tt)
by_tag (LoadReg d a) = inr ((λ b. b), tt)
by_tag (Pop d) = inr ((λ b. b), tt)
by_tag (Swap d a) = inr ((λ b. b), tt)
by_tag (Jmp i) = inr ((λ b. b), tt)
by_tag (JmpReg a) = inr ((λ b. b), tt)
by_tag (Call i) = inr ((λ b. b), tt)
by_tag Ret = inr ((λ b. b), tt)
by_tag (Jz i) = inl (tt, tt)
by_tag (Jnz i) = inl (tt, tt)
by_tag (Jc i) = inl (tt, tt)
by_tag (Jnc i) = inl (tt, tt)
by_tag (Jv i) = inl (tt, tt)
by_tag (Jnv i) = inl (tt, tt)
by_tag (Jlz i) = inl (tt, tt)
by_tag (Jp i) = inl (tt, tt)
by_tag (Jgz i) = inl (tt, tt)
by_tag (Jleu i) = inl (tt, tt)
by_tag (Jlt i) = inl (tt, tt)
by_tag (Jle i) = inl (tt, tt)
by_tag (LcdCmd i) = inr ((λ b. b), tt)
by_tag (LcdImm i) = inr ((λ b. b), tt)
by_tag (LcdReg a) = inr ((λ b. b), tt)
by_tag (LcdMem i) = inr ((λ b. b), tt)
by_tag (OutReg a) = inr ((λ b. b), tt)
by_tag (OutMem i) = inr ((λ b. b), tt)
by_tag Hlt = inr ((λ b. b), tt)
by_tag Nop = inr ((λ b. b), tt)

pub is_branch : (i : Instr) → OneOf branches (tag_of the_type i) → IsBranch (class_of i)
is_branch i h = elim (by_tag i) [ inl p ↦ p.0 | inr p ↦ absurd (miss branches (tag_of the_type i) p.1 h) ]

pub no_branch : (i : Instr) → OneOf unconditional (tag_of the_type i) → IsBranch (class_of i) → ⊥
no_branch i h b = elim (by_tag i) [ inl p ↦ miss unconditional (tag_of the_type i) p.1 h | inr p ↦ p.0 b ]
