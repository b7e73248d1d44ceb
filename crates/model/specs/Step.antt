-- A step of the machine: the instruction at PC is fetched, planned, and its write is made.
-- Assumes nothing.
use Rattle.std.specs.Prelude.{ℕ, ◌+◌, List, get_or, set}
use Rattle.isa.specs.Decode.{decode_of}
use Rattle.isa.specs.Table.{cycles_of}
use Rattle.isa.specs.declared.Instr.{Instr}
use Rattle.model.specs.Plan.{Plan, plan_of}
use Rattle.model.specs.State.{next_address, with_pc}
use Rattle.model.specs.declared.State.{State}
use Rattle.model.specs.declared.Write.{Write}
use Rattle.model.specs.declared.Write.TheVariants.{Nothing, Data, Stack, Roll}

-- the two banks that no step changes
pub record Program : Type 0 where
  pub opcodes : List ℕ
  pub arguments : List ℕ

-- what a run reads and never writes: the program and the keys
pub record Setting : Type 0 where
  pub program : Program
  pub keys : List ℕ

abbrev pub setting : List ℕ → List ℕ → List ℕ → Setting
setting ops args keys = record { program = record { opcodes = ops; arguments = args }; keys = keys }

-- what a run changes, the stack bank aside: state, data bank, roll, and what was counted in this run: roll words, steps, cycles. The roll is
-- 01's term for the words sent to the display
pub record Core : Type 0 where
  pub state : State
  pub ram : List ℕ
  pub roll : List ℕ
  pub words : ℕ
  pub steps : ℕ
  pub cycles : ℕ

pub record Machine : Type 0 where
  pub core : Core
  pub stack : List ℕ

-- the machine of a state, the banks and the roll, after so many roll words, steps and cycles
abbrev pub machine_at : State → List ℕ → List ℕ → List ℕ → ℕ → ℕ → ℕ → Machine
machine_at s ram stack roll words steps cycles =
    record { core = record { state = s; ram = ram; roll = roll; words = words; steps = steps; cycles = cycles }; stack = stack }

-- 01: "An instruction is one opcode byte and the argument byte at the same address"
unfoldable pub instr_at : Program → ℕ → Instr
instr_at p a = decode_of (get_or p.opcodes a 0) (get_or p.arguments a 0)

abbrev pub next_instr : Setting → Machine → Instr
next_instr x m = instr_at x.program m.core.state.pc

-- 01: "PC goes up by one at fetch, from 255 to 0"
abbrev pub fetched : State → State
fetched s = with_pc s (next_address s.pc)

-- the byte at SP
abbrev pub top_of : Machine → ℕ
top_of m = get_or m.stack m.core.state.sp 0

-- what a write does to the data bank, the stack bank and the roll, which is written at its next free place
abbrev pub ram_after : Write → List ℕ → List ℕ
ram_after Nothing l = l
ram_after (Data a v) l = set l a v
ram_after (Stack a v) l = l
ram_after (Roll w) l = l

abbrev pub stack_after : Write → List ℕ → List ℕ
stack_after Nothing l = l
stack_after (Data a v) l = l
stack_after (Stack a v) l = set l a v
stack_after (Roll w) l = l

abbrev pub roll_after : Write → ℕ → List ℕ → List ℕ
roll_after Nothing n l = l
roll_after (Data a v) n l = l
roll_after (Stack a v) n l = l
roll_after (Roll w) n l = set l n w

abbrev pub words_after : Write → ℕ → ℕ
words_after Nothing n = n
words_after (Data a v) n = n
words_after (Stack a v) n = n
words_after (Roll w) n = n + 1

-- a plan of n cycles applied to a machine: one step more
unfoldable pub applied_of : Plan → ℕ → Machine → Machine
applied_of p n m =
    record {
      core =
          record {
            state = p.state;
            ram = ram_after p.write m.core.ram;
            roll = roll_after p.write m.core.words m.core.roll;
            words = words_after p.write m.core.words;
            steps = m.core.steps + 1;
            cycles = m.core.cycles + n;
          };
      stack = stack_after p.write m.stack;
    }

-- an instruction's plan at a machine
abbrev pub plan_at : Setting → Instr → Machine → Plan
plan_at x i m = plan_of (fetched m.core.state) (top_of m) m.core.ram x.keys i

-- one step. It is asked of any machine; a run asks it only where no stop holds (Run.antt)
unfoldable pub step_of : Setting → Machine → Machine
step_of x m = applied_of (plan_at x (next_instr x m) m) (cycles_of (next_instr x m)) m
