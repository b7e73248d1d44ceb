-- Which seat the code finds, by what it looks at: opcodes, states, and whether a roll is full.
-- Assumes nothing.
use Rattle.std.specs.Prelude.{ℕ, ◌/◌, Bool, not, ◌&&◌, ◌||◌, List, eqb, leb, get_or}
use Rattle.alu.specs.Alu.{is_settled}
use Rattle.model.specs.State.{start_state}
use Rattle.model.specs.declared.State.{State}
use Rattle.seats.specs.Room.{length_at, bank_of}

-- the opcodes of jv and jnv, jlt and jle by their upper six bits, and of the LCD transfers by their upper four
abbrev pub is_overflow_jump : ℕ → Bool
is_overflow_jump op = eqb (op / 4) 0b110000 || eqb (op / 4) 0b110001 || eqb (op / 4) 0b110110 || eqb (op / 4) 0b110111

abbrev pub is_transfer : ℕ → Bool
is_transfer op = eqb (op / 16) 0b1110

-- no stop other than spent prevents the step of an opcode
abbrev pub goes_at : (op : ℕ) → State → (full : Bool) → Bool
goes_at op s full = not (s.halted || (is_overflow_jump op && not (is_settled s.flags.v)) || (is_transfer op && full))

-- of seat i
abbrev pub goes_by : (ops roll_lengths : List ℕ) → (states : List State) → (positions : List ℕ) → ℕ → Bool
goes_by ops roll_lengths states positions i =
    goes_at (get_or (bank_of ops i) (get_or states i start_state).pc 0) (get_or states i start_state)
    (leb (length_at roll_lengths i) (get_or positions i 0))
