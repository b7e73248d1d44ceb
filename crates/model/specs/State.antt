-- The machine's state (01, 'The machine'): its parts, each changed alone, and the start state.
-- Assumes nothing.
use Rattle.std.specs.Prelude.{ℕ, ◌+◌, ◌%◌, Bool, false, List, [], ◌∷◌, get_or, set}
use Rattle.alu.specs.declared.Flags.{Flags}
use Rattle.alu.specs.declared.Overflow.TheVariants.{Unsettled}
use Rattle.model.specs.declared.State.{State}

-- the address after another. 01: "PC goes up by one at fetch, from 255 to 0"
abbrev pub next_address : ℕ → ℕ
next_address a = (a + 1) % 256

-- where SP moves. 01: "push and call: SP minus one modulo 256"; "pop and ret: .. then SP plus one modulo 256"
abbrev pub sp_after_push : ℕ → ℕ
sp_after_push sp = (sp + 255) % 256

abbrev pub sp_after_pop : ℕ → ℕ
sp_after_pop sp = (sp + 1) % 256

abbrev pub register : State → ℕ → ℕ
register s r = get_or s.regs r 0

abbrev pub with_registers : State → List ℕ → State
with_registers s regs =
    record { regs = regs; pc = s.pc; sp = s.sp; out = s.out; flags = s.flags; halted = s.halted; position = s.position }

abbrev pub with_register : State → ℕ → ℕ → State
with_register s r v = with_registers s (set s.regs r v)

abbrev pub with_pc : State → ℕ → State
with_pc s n =
    record { regs = s.regs; pc = n; sp = s.sp; out = s.out; flags = s.flags; halted = s.halted; position = s.position }

abbrev pub with_sp : State → ℕ → State
with_sp s n =
    record { regs = s.regs; pc = s.pc; sp = n; out = s.out; flags = s.flags; halted = s.halted; position = s.position }

abbrev pub with_out : State → ℕ → State
with_out s n =
    record { regs = s.regs; pc = s.pc; sp = s.sp; out = n; flags = s.flags; halted = s.halted; position = s.position }

abbrev pub with_flags : State → Flags → State
with_flags s f =
    record { regs = s.regs; pc = s.pc; sp = s.sp; out = s.out; flags = f; halted = s.halted; position = s.position }

abbrev pub with_halted : State → Bool → State
with_halted s b =
    record { regs = s.regs; pc = s.pc; sp = s.sp; out = s.out; flags = s.flags; halted = b; position = s.position }

abbrev pub with_position : State → ℕ → State
with_position s n =
    record { regs = s.regs; pc = s.pc; sp = s.sp; out = s.out; flags = s.flags; halted = s.halted; position = n }

-- 01: "Start state: PC 0, SP 255, V unsettled, not halted, position 0, all else 0. The third demand also takes any registers, Z, C and S there."
abbrev pub start_with : List ℕ → Bool → Bool → Bool → State
start_with regs z c s =
    record { regs = regs; pc = 0; sp = 255; out = 0; flags = record { z = z; c = c; s = s; v = Unsettled }; halted = false; position = 0 }

abbrev pub start_state : State
start_state = start_with (0 ∷ 0 ∷ 0 ∷ 0 ∷ []) false false false
