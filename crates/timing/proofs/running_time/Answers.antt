-- The tests are those of the definition, in its order; the numbers that pass are small.
use Prim.Native.Nat.{ℕ}
use mathlib.Core.Path.{◌≡◌, subst}
use borrow.Author.Tests.{eq-eqb, ne_eqb, lt-ltb, le-ltb}
use Rattle.std.specs.Prelude.{Result, Ok, Err}
use Rattle.model.specs.Time.{max_clock, max_cycles, time_of, TimePromise}
use Rattle.model.specs.declared.TimeError.{TimeError}
use Rattle.model.specs.declared.TimeError.TheVariants.{BadClock, BadCycles}
use Rattle.model.proofs.Promises.{time_promise}
use Rattle.timing.proofs.running_time.Goals as goal

promised : (cycles clock : ℕ) (t : Result ℕ TimeError) → time_of cycles clock ≡ t → TimePromise cycles clock t
promised cycles clock t e = subst (TimePromise cycles clock) e (time_promise cycles clock)

pub returns-then-clock-eq0 : goal.returns-then-clock-eq0
unfolding time_of
returns-then-clock-eq0 c = promised _ _ (Err BadClock) (rw (eq-eqb _ _ c.if-clock-eq0.true))

pub returns-then-clock-gt-MAX_CLOCK : goal.returns-then-clock-gt-MAX_CLOCK
unfolding time_of
returns-then-clock-gt-MAX_CLOCK c = promised _ _ (Err BadClock) (rw (ne_eqb _ _ c.if-clock-eq0.false, lt-ltb max_clock _ c.if-clock-gt-MAX_CLOCK.true))

pub returns-then-cycles-gt-MAX_CYCLES : goal.returns-then-cycles-gt-MAX_CYCLES
unfolding time_of
returns-then-cycles-gt-MAX_CYCLES c = promised _ _ (Err BadCycles) (rw (ne_eqb _ _ c.if-clock-eq0.false, le-ltb max_clock _ c.if-clock-gt-MAX_CLOCK.false, lt-ltb max_cycles _ c.if-cycles-gt-MAX_CYCLES.true))

pub returns : goal.returns
unfolding time_of
returns c = promised _ _ (Ok _) (rw (ne_eqb _ _ c.if-clock-eq0.false, le-ltb max_clock _ c.if-clock-gt-MAX_CLOCK.false, le-ltb max_cycles _ c.if-cycles-gt-MAX_CYCLES.false))
