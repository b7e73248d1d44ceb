-- 02 [5]: "Their banks, keys and rolls lie one behind another in six buffers, with a length for each seat's keys and roll." A room, a seat's own
-- part of it, and that part put back.
-- Assumes nothing.
use Rattle.std.specs.Prelude.{ℕ, ◌*◌, ◌≡◌, List, length, get_or, set, take}
use Rattle.slices.specs.Lists.{total_of}
use Rattle.slices.specs.Parts.{part_of, replaced}
use Rattle.slices.specs.Sizes.{bank_size}
use Rattle.model.specs.Run.{Ended, run_of}
use Rattle.model.specs.State.{start_state}
use Rattle.model.specs.Step.{Setting, setting, Machine, machine_at}
use Rattle.model.specs.declared.State.{State}

-- the six buffers that all seats share, the lengths, and what each seat has beside them: its state, and how many words stand on its roll
pub record Room : Type 0 where
  pub opcodes : List ℕ
  pub arguments : List ℕ
  pub keys : List ℕ
  pub ram : List ℕ
  pub stack : List ℕ
  pub rolls : List ℕ
  pub key_lengths : List ℕ
  pub roll_lengths : List ℕ
  pub states : List State
  pub roll_positions : List ℕ

abbrev pub room : (ops args keys ram stack rolls key_lengths roll_lengths : List ℕ) → List State → (roll_positions : List ℕ) → Room
room ops args keys ram stack rolls key_lengths roll_lengths states roll_positions =
    record {
      opcodes = ops;
      arguments = args;
      keys = keys;
      ram = ram;
      stack = stack;
      rolls = rolls;
      key_lengths = key_lengths;
      roll_lengths = roll_lengths;
      states = states;
      roll_positions = roll_positions;
    }

-- "up to eight listings": states and roll positions are kept for eight seats
abbrev pub max_seats : ℕ
max_seats = 8

pub record EightPlaces (w : Room) : Type 0 where
  pub states : length w.states ≡ max_seats
  pub roll_positions : length w.roll_positions ≡ max_seats

-- ---- a seat's parts

-- where seat i's bank begins
abbrev pub bank_at : ℕ → ℕ
bank_at i = bank_size * i

-- where seat i's keys or roll begin: behind those of the seats before it
unfoldable pub begin_of : (lengths : List ℕ) → ℕ → ℕ
begin_of lengths i = total_of (take i lengths)

abbrev pub length_at : (lengths : List ℕ) → ℕ → ℕ
length_at lengths i = get_or lengths i 0

-- seat i's part of a buffer of banks, and of the keys or the rolls
abbrev pub bank_of : List ℕ → ℕ → List ℕ
bank_of l i = part_of l (bank_at i) bank_size

abbrev pub share_of : List ℕ → (lengths : List ℕ) → ℕ → List ℕ
share_of l lengths i = part_of l (begin_of lengths i) (length_at lengths i)

-- ---- a seat

-- what a seat has of its own: what its run reads, its state, its banks, its roll and how many words stand on it
pub record Seat : Type 0 where
  pub setting : Setting
  pub state : State
  pub ram : List ℕ
  pub stack : List ℕ
  pub roll : List ℕ
  pub roll_position : ℕ

unfoldable pub seat_of : Room → ℕ → Seat
seat_of w i =
    record {
      setting = setting (bank_of w.opcodes i) (bank_of w.arguments i) (share_of w.keys w.key_lengths i);
      state = get_or w.states i start_state;
      ram = bank_of w.ram i;
      stack = bank_of w.stack i;
      roll = share_of w.rolls w.roll_lengths i;
      roll_position = get_or w.roll_positions i 0;
    }

-- the room with seat i's state, data, stack, roll and roll position put back; all else is as it was
unfoldable pub with_seat : Room → ℕ → Seat → Room
with_seat w i s =
    record {
      opcodes = w.opcodes;
      arguments = w.arguments;
      keys = w.keys;
      ram = replaced w.ram (bank_at i) bank_size s.ram;
      stack = replaced w.stack (bank_at i) bank_size s.stack;
      rolls = replaced w.rolls (begin_of w.roll_lengths i) (length_at w.roll_lengths i) s.roll;
      key_lengths = w.key_lengths;
      roll_lengths = w.roll_lengths;
      states = set w.states i s.state;
      roll_positions = set w.roll_positions i s.roll_position;
    }

-- ---- a seat alone

-- its machine, after so many steps and cycles. "A seat's roll is continued from turn to turn": the words that stand on it are counted
abbrev pub machine_in : Seat → (steps cycles : ℕ) → Machine
machine_in s steps cycles = machine_at s.state s.ram s.stack s.roll s.roll_position steps cycles

-- "running it alone" with a budget
unfoldable pub alone_of : Seat → ℕ → Ended
alone_of s budget = run_of s.setting budget (machine_in s 0 0)

-- the seat when its machine has reached m
abbrev pub seat_at : Seat → Machine → Seat
seat_at s m =
    record {
      setting = s.setting;
      state = m.core.state;
      ram = m.core.ram;
      stack = m.stack;
      roll = m.core.roll;
      roll_position = m.core.words;
    }
