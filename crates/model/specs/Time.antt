-- Running time (01, 'The machine'), with the refusals 20 and 21.
-- Assumes nothing.
use Rattle.std.specs.Prelude.{ℕ, ◌+◌, ◌*◌, ◌/◌, ◌≡◌, Bool, cond, ◌||◌, List, [], ◌∷◌, eqb, ltb, Result, Ok, Err}
use Rattle.slices.specs.Checks.{Check, check, NoneBroken, FirstViolation}
use Rattle.model.specs.declared.TimeError.{TimeError}
use Rattle.model.specs.declared.TimeError.TheVariants.{BadClock, BadCycles}

-- "cycles divided by a clock in Hz, in tenths of a second, to the nearest, a half going up": the whole part of 10 * cycles / clock + 1/2
abbrev pub tenths_of : ℕ → ℕ → ℕ
tenths_of cycles clock = (20 * cycles + clock) / (2 * clock)

-- 20: "A clock is 0 or above 1,000,000 Hz"
abbrev pub max_clock : ℕ
max_clock = 1000000

abbrev pub bad_clock : ℕ → Bool
bad_clock clock = eqb clock 0 || ltb max_clock clock

-- 21: "A cycle count to be timed is over 8,000,000"
abbrev pub max_cycles : ℕ
max_cycles = 8000000

abbrev pub bad_cycles : ℕ → Bool
bad_cycles cycles = ltb max_cycles cycles

unfoldable pub time_of : ℕ → ℕ → Result ℕ TimeError
time_of cycles clock = cond (bad_clock clock) (Err BadClock) (cond (bad_cycles cycles) (Err BadCycles) (Ok (tenths_of cycles clock)))

-- 01's number for each case, 0 where nothing is refused
abbrev pub time_number : Result ℕ TimeError → ℕ
time_number (Ok n) = 0
time_number (Err BadClock) = 20
time_number (Err BadCycles) = 21

abbrev pub time_checks : ℕ → ℕ → List Check
time_checks cycles clock = check 20 0 (bad_clock clock) ∷ check 21 0 (bad_cycles cycles) ∷ []

pub record TimePromise (cycles clock : ℕ) (t : Result ℕ TimeError) : Type 0 where
  pub computed : t ≡ time_of cycles clock
  -- the first demand: a good call has its time; every other is refused by the first rule it breaks
  pub timed : NoneBroken (time_checks cycles clock) → t ≡ Ok (tenths_of cycles clock)
  pub refuses : FirstViolation (time_checks cycles clock) (time_number t)
