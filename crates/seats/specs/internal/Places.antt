-- Where the seats have their places in the six buffers.
-- Assumes nothing.
use Rattle.std.specs.Prelude.{ℕ, ◌+◌, ◌≤◌, ◌≡◌, length}
use Rattle.slices.specs.Sizes.{bank_size}
use Rattle.seats.specs.Room.{Room, bank_at, begin_of, length_at}

-- n seats fill each buffer
pub record Fitting (n : ℕ) (w : Room) : Type 0 where
  pub opcodes : length w.opcodes ≡ bank_at n
  pub arguments : length w.arguments ≡ bank_at n
  pub ram : length w.ram ≡ bank_at n
  pub stack : length w.stack ≡ bank_at n
  pub keys : begin_of w.key_lengths n ≡ length w.keys
  pub rolls : begin_of w.roll_lengths n ≡ length w.rolls

-- seat i has its places in each
pub record SeatPlaces (w : Room) (i : ℕ) : Type 0 where
  pub opcodes : bank_at i + bank_size ≤ length w.opcodes
  pub arguments : bank_at i + bank_size ≤ length w.arguments
  pub ram : bank_at i + bank_size ≤ length w.ram
  pub stack : bank_at i + bank_size ≤ length w.stack
  pub keys : begin_of w.key_lengths i + length_at w.key_lengths i ≤ length w.keys
  pub rolls : begin_of w.roll_lengths i + length_at w.roll_lengths i ≤ length w.rolls
