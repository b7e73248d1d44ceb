-- THE FIRST DEMAND, whole: every listing that keeps all admission rules is accepted, whoever drew its sheet; every other listing or call is
-- refused by the first rule it breaks (a listing with its place), and no lent byte changes. A good run ends in one of four named stops.
-- Assumes nothing.
use Rattle.std.specs.Prelude.{ℕ, ◌+◌, ◌*◌, ◌/◌, ◌≡◌, ◌||◌, List, [], ◌∷◌, eqb, ltb, length}
use Rattle.slices.specs.Checks.{Check, check, NoneBroken, Named}
use Rattle.slices.specs.Sizes.{bad_bank}
use Rattle.isa.specs.Encode.{bad_register, bad_function, encode_of, opcodes_after, arguments_after}
use Rattle.isa.specs.Table.{row_of, argument_in}
use Rattle.isa.specs.declared.Instr.{Instr}
use Rattle.model.specs.Run.{Call}
use Rattle.rules.specs.Grounds.{checks}
use Rattle.rules.specs.Sheet.{Listing}
use Rattle.numbers.specs.Numbers.{instr_of}
use Rattle.run_numbers.specs.Runs.{state_numbers}
use Rattle.numbers.specs.declared.Encoding.{Encoding}
use Rattle.numbers.specs.declared.Fields.{Fields}
use Rattle.run_numbers.specs.declared.RunNumbers.{RunNumbers}
use Rattle.run_numbers.specs.declared.TimeNumbers.{TimeNumbers}

-- what keeps every rule is accepted; everything else is refused by the first rule it breaks: rules before it hold, and the answer is its
-- number + 256 × its place
pub record Decided (rules : List Check) (answer : ℕ) : Type 0 where
  pub accepted : NoneBroken rules → answer ≡ 0
  pub refused : (NoneBroken rules → ⊥) → Named rules answer

-- ---- a listing: `checks` has 01's rules 1 to 16 in checking order

abbrev pub FirstOfListing : Listing → ℕ → Type 0
FirstOfListing L answer = Decided (checks L) answer

-- ---- a run

abbrev pub run_rules : Call → List Check
run_rules c =
    -- "A run's bank isn't 256 bytes"
    check 17 0 (bad_bank c.setting.program.opcodes || bad_bank c.setting.program.arguments || bad_bank c.ram || bad_bank c.stack)
    -- "Its key position is past the end of the keys (equal is allowed)"
    ∷ check 18 0 (ltb (length c.setting.keys) c.state.position)
    -- "Its budget is over 1,000,000"
    ∷ check 19 0 (ltb 1000000 c.budget)
    ∷ []

-- "The stops are named halted, spent, unsettled and full, in this order"
pub data FourStops : ℕ → Type 0 where
  halted : FourStops 0
  spent : FourStops 1
  unsettled : FourStops 2
  full : FourStops 3

-- "with the lent memory unchanged and only the number handed back"
abbrev pub only_number : ℕ → Call → RunNumbers
only_number number c = (number, 0, 0, 0, 0, state_numbers c.state)

pub record NothingBut (number : ℕ) (c : Call) (r : RunNumbers) (ram stack roll : List ℕ) : Type 0 where
  pub report : r ≡ only_number number c
  pub ram_kept : ram ≡ c.ram
  pub stack_kept : stack ≡ c.stack
  pub roll_kept : roll ≡ c.roll

pub record FirstOfRun (c : Call) (r : RunNumbers) (ram stack roll : List ℕ) : Type 0 where
  pub decided : Decided (run_rules c) r.0
  pub stops : NoneBroken (run_rules c) → FourStops r.1
  pub unchanged : (NoneBroken (run_rules c) → ⊥) → NothingBut r.0 c r ram stack roll

-- ---- a running time

abbrev pub time_rules : (cycles clock : ℕ) → List Check
time_rules cycles clock =
    -- "A clock is 0 or above 1,000,000 Hz"
    check 20 0 (eqb clock 0 || ltb 1000000 clock)
    -- "A cycle count to be timed is over 8,000,000"
    ∷ check 21 0 (ltb 8000000 cycles)
    ∷ []

pub record FirstOfTime (cycles clock : ℕ) (r : TimeNumbers) : Type 0 where
  pub decided : Decided (time_rules cycles clock) r.0
  pub nothing_else : (r.0 ≡ 0 → ⊥) → r ≡ (r.0, 0)
  -- "in tenths of a second, to the nearest, a half going up"
  pub timed : NoneBroken (time_rules cycles clock) → r.1 ≡ (20 * cycles + clock) / (2 * clock)

-- ---- an instruction to be encoded, or put into the banks

abbrev pub encode_rules : Instr → List Check
encode_rules i =
    -- "A form to be encoded has a register number over 3"
    check 22 0 (bad_register (row_of i))
    -- "It has a function number over 15"
    ∷ check 23 0 (bad_function (argument_in (row_of i)))
    ∷ []

abbrev pub put_rules : Instr → (ops args : List ℕ) → List Check
put_rules i ops args = check 1 0 (bad_bank ops || bad_bank args) ∷ encode_rules i

pub record FirstOfEncode (x : Fields) (r : Encoding) : Type 0 where
  pub decided : Decided (encode_rules (instr_of x)) r.0
  pub nothing_else : (r.0 ≡ 0 → ⊥) → r ≡ (r.0, 0, 0)

pub record FirstOfPut (x : Fields) (ops args : List ℕ) (at number : ℕ) (ops' args' : List ℕ) : Type 0 where
  pub decided : Decided (put_rules (instr_of x) ops args) number
  -- the two bytes stand at the address
  pub opcode_put : NoneBroken (put_rules (instr_of x) ops args) → ops' ≡ opcodes_after (encode_of (instr_of x)) ops at
  pub argument_put : NoneBroken (put_rules (instr_of x) ops args) → args' ≡ arguments_after (encode_of (instr_of x)) args at
  pub opcodes_kept : (NoneBroken (put_rules (instr_of x) ops args) → ⊥) → ops' ≡ ops
  pub arguments_kept : (NoneBroken (put_rules (instr_of x) ops args) → ⊥) → args' ≡ args
