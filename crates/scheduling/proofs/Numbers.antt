-- The seats as numbers: a place of the numbers is that place of the states, and changing one changes the other.
-- Assumes nothing.
use mathlib.Core.Path.{◌≡◌, refl, ap}
use mathlib.Core.Bool.{Bool, true, false, ◌||◌}
use mathlib.Core.List.{List}
use Prim.Native.Nat.{ℕ, ◌+◌, ◌<◌}
use native.Mathlib.Numerals.{add-one}
use lib.Dec.{ltb}
use lib.ListN.{length, get_or, set}
use Rattle.slices.specs.Lists.{mapped}
use Rattle.slices.proofs.Lookup.{place_read, mapped_set}
use Rattle.alu.specs.declared.Overflow.{Overflow}
use Rattle.alu.specs.declared.Overflow.TheVariants.{Settled, Unsettled}
use Rattle.model.specs.State.{start_state}
use Rattle.model.specs.declared.State.{State}
use Rattle.numbers.specs.Numbers.{overflow_number}
use Rattle.run_numbers.specs.Runs.{overflow_of, state_of, state_numbers}
use Rattle.run_numbers.specs.declared.StateNumbers.{StateNumbers}
use Rattle.seats.specs.Turn.{bad_position, any_of}

-- ---- states

overflow_there : (v : Overflow) → overflow_of (overflow_number v) ≡ v
overflow_there (Settled false) = refl
overflow_there (Settled true) = refl
overflow_there Unsettled = refl

there_and_back : (s : State) → state_of (state_numbers s) ≡ s
there_and_back s = rw (overflow_there s.flags.v)

pub state_put : (l : List StateNumbers) (i : ℕ) (s : State) → mapped state_of (set l i (state_numbers s)) ≡ set (mapped state_of l) i s
state_put l i s = rw (mapped_set state_of l i (state_numbers s), there_and_back s)

-- ---- one seat more is asked for its positions

pub any_more : (l : List StateNumbers) (roll_positions key_lengths roll_lengths : List ℕ) (i : ℕ) (any : Bool) (d : StateNumbers) → i < length l
    → any ≡ any_of (bad_position key_lengths roll_lengths (mapped state_of l) roll_positions) i
    → any || (ltb (get_or key_lengths i 0) (get_or l i d).9 || ltb (get_or roll_lengths i 0) (get_or roll_positions i 0))
    ≡ any_of (bad_position key_lengths roll_lengths (mapped state_of l) roll_positions) (i + 1)
unfolding any_of
any_more l roll_positions key_lengths roll_lengths i any d h e =
    let p : (get_or l i d).9 ≡ (get_or (mapped state_of l) i start_state).position = ap (λ (s : State). s.position) (place_read state_of l i d start_state h) in
    rw (add-one i, e, p)
