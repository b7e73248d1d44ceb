-- THE SECOND DEMAND, whole: each step does to registers, flags, banks, keys, display and cycle count exactly what the CESCA document says,
-- admitted or not; a run makes every step up to the first stop, and no other; instruction -> two bytes -> instruction is the identity; two
-- bytes read and written again differ only in free bits.
-- Assumes nothing.
use Rattle.std.specs.Prelude.{ℕ, ◌≤◌, ◌≡◌, Bool, false, not, ◌&&◌, List, leb, length, get_or, Option, Some, None, Ok}
use Rattle.slices.specs.Checks.{NoneBroken}
use Rattle.alu.specs.Alu.{alu_of, is_settled}
use Rattle.isa.specs.Decode.{decode_of}
use Rattle.isa.specs.Facts.{writes_roll}
use Rattle.isa.specs.Free.{cleared_of}
use Rattle.isa.specs.Table.{row_of, cycles_of}
use Rattle.isa.specs.declared.Instr.{Instr}
use Rattle.model.specs.Plan.{Plan, plan_of}
use Rattle.model.specs.Run.{tests_overflow, first_stop, Call, machine_of, Ended, run_of, trace_of, cycles_in}
use Rattle.model.specs.Step.{Setting, Machine, fetched, ram_after, stack_after, roll_after, words_after}
use Rattle.model.specs.declared.State.{State}
use Rattle.model.specs.declared.Stop.{Stop}
use Rattle.model.specs.declared.Stop.TheVariants.{Halted, Spent, Unsettled, Full}
use Rattle.numbers.specs.Numbers.{fields_of, instr_of, computed_numbers, fact_numbers_of}
use Rattle.run_numbers.specs.Runs.{state_numbers}
use Rattle.numbers.specs.declared.ComputedNumbers.{ComputedNumbers}
use Rattle.numbers.specs.declared.Encoding.{Encoding}
use Rattle.numbers.specs.declared.FactNumbers.{FactNumbers}
use Rattle.numbers.specs.declared.Fields.{Fields}
use Rattle.run_numbers.specs.declared.RunNumbers.{RunNumbers}
use Rattle.demands.specs.First.{run_rules, encode_rules}

-- ---- a step

-- "An instruction is one opcode byte and the argument byte at the same address", here at PC
abbrev pub instruction_at_pc : Setting → State → Instr
instruction_at_pc x s = decode_of (get_or x.program.opcodes s.pc 0) (get_or x.program.arguments s.pc 0)

-- what the CESCA document says of it: `plan_of` has a clause a row; the byte at SP is its second argument
abbrev pub planned : Setting → Machine → Plan
planned x m =
    plan_of (fetched m.core.state) (get_or m.stack m.core.state.sp 0) m.core.ram x.keys (instruction_at_pc x m.core.state)

-- a step asked for at m, with budget left: the verdict, the cycles, and the machine m' left
pub record SecondOfStep (x : Setting) (m : Machine) (v : Option Stop) (cycles : ℕ) (m' : Machine) : Type 0 where
  -- "Before each step the first that holds stops it: halted; ..; V is unsettled; it writes to the roll and the roll is full"
  pub verdict :
      v ≡ first_stop m.core.state.halted false
      (tests_overflow (instruction_at_pc x m.core.state) && not (is_settled m.core.state.flags.v))
      (writes_roll (instruction_at_pc x m.core.state) && leb (length m.core.roll) m.core.words)
  pub state : v ≡ None → m'.core.state ≡ (planned x m).state
  pub data_bank : v ≡ None → m'.core.ram ≡ ram_after (planned x m).write m.core.ram
  pub stack_bank : v ≡ None → m'.stack ≡ stack_after (planned x m).write m.stack
  pub display : v ≡ None → m'.core.roll ≡ roll_after (planned x m).write m.core.words m.core.roll
  pub display_words : v ≡ None → m'.core.words ≡ words_after (planned x m).write m.core.words
  -- "Cycles are 003's column, taken or untaken jumps alike"
  pub cycles_are : v ≡ None → cycles ≡ cycles_of (instruction_at_pc x m.core.state)
  -- "A stopped instruction has done nothing and isn't counted"
  pub prevented : (y : Stop) → v ≡ Some y → (m' ≡ m) × (cycles ≡ 0)

-- ---- a run

-- "The stops are named halted, spent, unsettled and full, in this order"
abbrev pub stop_numbered : Stop → ℕ → Type 0
stop_numbered Halted n = n ≡ 0
stop_numbered Spent n = n ≡ 1
stop_numbered Unsettled n = n ≡ 2
stop_numbered Full n = n ≡ 3

-- the steps up to the first stop, where the run ends and what it leaves
pub record RunReported (c : Call) (e : Ended) (r : RunNumbers) (ram stack roll : List ℕ) : Type 0 where
  pub stop : stop_numbered e.stop r.1
  -- "Steps or cycles .. summed from the instructions executed"
  pub steps : r.2 ≡ length (trace_of c.setting c.budget (machine_of c))
  pub cycles : r.3 ≡ cycles_in c.setting (trace_of c.setting c.budget (machine_of c))
  pub words : r.4 ≡ e.machine.core.words
  pub state : r.5 ≡ state_numbers e.machine.core.state
  pub ram_left : ram ≡ e.machine.core.ram
  pub stack_left : stack ≡ e.machine.stack
  pub roll_left : roll ≡ e.machine.core.roll
  pub within_budget : r.2 ≤ c.budget

abbrev pub SecondOfRun : Call → RunNumbers → (ram stack roll : List ℕ) → Type 0
SecondOfRun c r ram stack roll = NoneBroken (run_rules c) → RunReported c (run_of c.setting c.budget (machine_of c)) r ram stack roll

-- ---- instructions and bytes

-- the numbers y of an instruction x that was encoded, and then decoded: the same instruction, in the numbers that the table gives it
abbrev pub InstructionReturns : Fields → Fields → Type 0
InstructionReturns x y = NoneBroken (encode_rules (instr_of x)) → (instr_of y ≡ instr_of x) × (y ≡ fields_of (instr_of x))

-- two bytes that were decoded, and then encoded: no refusal, and just the free bits of their row cleared
abbrev pub BytesReturn : (op arg : ℕ) → Encoding → Type 0
BytesReturn op arg r = (r.0 ≡ 0) × (Ok (r.1, r.2) ≡ cleared_of (row_of (decode_of op arg)) op arg)

-- ---- a function of the ALU, and an instruction's facts

abbrev pub SecondOfAlu : (f x y : ℕ) → (c : Bool) → ComputedNumbers → Type 0
SecondOfAlu f x y c r = r ≡ computed_numbers (alu_of f x y c)

abbrev pub SecondOfFacts : Fields → FactNumbers → Type 0
SecondOfFacts x r = r ≡ fact_numbers_of (instr_of x)
