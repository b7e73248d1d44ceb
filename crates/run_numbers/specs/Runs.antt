-- A state, a run's report and a running time as numbers.
-- Assumes nothing.
use Rattle.std.specs.Prelude.{ℕ, ◌≡◌, true, false, List, [], ◌∷◌, get_or, Result, Ok, Err}
use Rattle.alu.specs.declared.Overflow.{Overflow}
use Rattle.alu.specs.declared.Overflow.TheVariants as overflow
use Rattle.model.specs.Run.{Call, call_of, refusal_number}
use Rattle.model.specs.RunPromise.{RunPromise}
use Rattle.model.specs.Time.{time_of, time_number, TimePromise}
use Rattle.model.specs.declared.Ran.{Ran}
use Rattle.model.specs.declared.Refusal.{Refusal}
use Rattle.model.specs.declared.TimeError.{TimeError}
use Rattle.model.specs.declared.TimeError.TheVariants.{BadClock, BadCycles}
use Rattle.model.specs.declared.State.{State}
use Rattle.model.specs.declared.Stop.{Stop}
use Rattle.model.specs.declared.Stop.TheVariants.{Halted, Spent, Unsettled, Full}
use Rattle.numbers.specs.Numbers.{overflow_number}
use Rattle.run_numbers.specs.declared.RunNumbers.{RunNumbers}
use Rattle.run_numbers.specs.declared.StateNumbers.{StateNumbers}
use Rattle.run_numbers.specs.declared.TimeNumbers.{TimeNumbers}

-- V: 0 clear, 1 set, and any other number unsettled
abbrev pub settled_numbers : List Overflow
settled_numbers = overflow.Settled false ∷ overflow.Settled true ∷ []

abbrev pub overflow_of : ℕ → Overflow
overflow_of n = get_or settled_numbers n overflow.Unsettled

-- R0 to R3, PC, SP, output register, Z, C, S, V, halted, position
abbrev pub state_of : StateNumbers → State
state_of x =
    record {
      regs = x.0;
      pc = x.1;
      sp = x.2;
      out = x.3;
      flags = record { z = x.4; c = x.5; s = x.6; v = overflow_of x.7 };
      halted = x.8;
      position = x.9;
    }

abbrev pub state_numbers : State → StateNumbers
state_numbers s =
    (s.regs, s.pc, s.sp, s.out, s.flags.z, s.flags.c, s.flags.s, overflow_number s.flags.v, s.halted, s.position)

-- 01: "named halted, spent, unsettled and full, in this order"
abbrev pub stop_number : Stop → ℕ
stop_number Halted = 0
stop_number Spent = 1
stop_number Unsettled = 2
stop_number Full = 3

-- 01's number, stop, steps, cycles, roll words and state; a refusal has only its number, and the state as it was
abbrev pub run_numbers : Result Ran Refusal → State → RunNumbers
run_numbers (Err x) s = (refusal_number x, 0, 0, 0, 0, state_numbers s)
run_numbers (Ok r) s = (0, stop_number r.stop, r.steps, r.cycles, r.words, state_numbers s)

-- the whole outcome of a run's call, as numbers and lent memory, and what a run promises of it
pub record RunNumbered (c : Call) (r : RunNumbers) (ram stack roll : List ℕ) : Type 0 where
  pub report : r ≡ run_numbers (call_of c).answer (call_of c).state
  pub ram_left : ram ≡ (call_of c).ram
  pub stack_left : stack ≡ (call_of c).stack
  pub roll_left : roll ≡ (call_of c).roll
  pub promise : RunPromise c (call_of c)

-- 01's number, and the tenths, 0 where there are none
abbrev pub time_numbers : Result ℕ TimeError → TimeNumbers
time_numbers (Ok n) = (0, n)
time_numbers (Err BadClock) = (time_number (Err BadClock), 0)
time_numbers (Err BadCycles) = (time_number (Err BadCycles), 0)

-- a running time as numbers, and what is promised of it
pub record TimeNumbered (cycles clock : ℕ) (r : TimeNumbers) : Type 0 where
  pub report : r ≡ time_numbers (time_of cycles clock)
  pub promise : TimePromise cycles clock (time_of cycles clock)
