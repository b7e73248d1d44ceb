-- A run and a running time keep their promises: the first cause is the first broken rule, and what is accepted is counted by its trace.
-- Assumes nothing.
use mathlib.Core.Path.{◌≡◌, refl, ◌∙◌}
use mathlib.Core.List.{List, [], ◌∷◌}
use Prim.Native.Nat.{ℕ, ◌<◌, ◌≤◌}
use Rattle.std.specs.Prelude.{Result, Ok, Err}
use native.Mathlib.Nat.{zero-add}
use native.Mathlib.Omega.{arith}
use borrow.Author.Tests.{ltb-false}
use Rattle.slices.specs.Checks.{NoneBroken, first_broken, FirstViolation}
use Rattle.slices.proofs.Bools.{by_test}
use Rattle.slices.proofs.Checks.{Numbered, first_violation}
use Rattle.model.specs.Run.{run_of, Call, Outcome, machine_of, reported, refused_of, Cause, max_budget, causes, first_cause, refusal_of, call_of, refusal_number, checks_of, run_checks}
use Rattle.model.specs.RunPromise.{Counted, LengthsKept, RunPromise}
use Rattle.model.specs.Time.{bad_clock, bad_cycles, time_of, time_number, time_checks, TimePromise}
use Rattle.model.specs.declared.Refusal.{Refusal}
use Rattle.model.specs.declared.Refusal.TheVariants.{BadBank, BadPosition, BadBudget}
use Rattle.model.proofs.Kept.{run_keeps}
use Rattle.model.proofs.MovClears.{mov_clears}
use Rattle.model.proofs.Runs.{runs_on, machine_runs_on}
use Rattle.model.proofs.Traces.{run_steps, run_cycles, trace_fits}

-- by the two cases of a precheck, with the equation
pub by_precheck {ℓ} : {A : Type ℓ} (v : Result (Unit {0}) Refusal) → ((r : Refusal) → v ≡ Err r → A) → (v ≡ Ok tt → A) → A
by_precheck (Err r) f g = f r refl
by_precheck (Ok p) f g = g refl

refusal_numbered : (r : Refusal) → 0 < refusal_number r
refusal_numbered BadBank = omega arith
refusal_numbered BadPosition = omega arith
refusal_numbered BadBudget = omega arith

checks_numbered : (xs : List Cause) → Numbered (checks_of xs)
checks_numbered [] = tt
checks_numbered (x ∷ xs) = (refusal_numbered x.refusal, checks_numbered xs)

abbrev pub precheck_number : Result (Unit {0}) Refusal → ℕ
precheck_number (Err r) = refusal_number r
precheck_number (Ok p) = 0

-- the first cause has the number of the first broken rule
number_is : (xs : List Cause) → precheck_number (first_cause xs) ≡ first_broken (checks_of xs)
unfolding first_broken
number_is [] = refl
number_is (x ∷ xs) = by_test x.given (λ q. rw (q, first_broken) (omega arith)) (λ q. rw (q, first_broken) (number_is xs))

-- so an answer with its number names that rule
pub first_named : (xs : List Cause) (n : ℕ) → n ≡ precheck_number (first_cause xs) → FirstViolation (checks_of xs) n
first_named xs n e = rw (e ∙ number_is xs) (first_violation (checks_of xs) (checks_numbered xs))

passes : (xs : List Cause) → NoneBroken (checks_of xs) → first_cause xs ≡ Ok tt
passes [] p = refl
passes (x ∷ xs) p = rw p.0 (passes xs p.1)

none_given : (xs : List Cause) → first_cause xs ≡ Ok tt → NoneBroken (checks_of xs)
none_given [] e = tt
none_given (x ∷ xs) e =
    by_test x.given
    (λ q. let f : Err x.refusal ≡ Ok tt = rw q at e in absurd (let z : ◌≡◌ {A = ℕ} 0 1 = cc in omega arith))
    (λ q. (q, none_given xs (rw q at e)))

module _ (c : Call) where
  abbrev ran : Outcome
  ran = reported (run_of c.setting c.budget (machine_of c))

  counted_ran : Counted c ran.answer
  counted_ran =
      let s = run_steps c.setting c.budget (machine_of c) ∙ zero-add _ in
      (s, run_cycles c.setting c.budget (machine_of c) ∙ zero-add _, omega (arith, s, trace_fits c.setting c.budget (machine_of c)))

  lengths_ran : LengthsKept c ran
  lengths_ran = let k = run_keeps c.setting c.budget (machine_of c) in record { ram = k.ram; stack = k.stack; roll = k.roll }

  violation : (n : ℕ) → n ≡ precheck_number (refusal_of c) → FirstViolation (run_checks c) n
  unfolding refusal_of
  violation n e = first_named (causes c) n e

  refused_promise : (r : Refusal) → refusal_of c ≡ Err r → RunPromise c (refused_of r c)
  unfolding call_of refusal_of
  refused_promise r e =
      record {
        computed = rw e;
        stops = λ p. absurd (let f = passes (causes c) p in let z : ◌≡◌ {A = ℕ} 0 1 = cc in omega arith);
        refuses = violation _ (rw e);
        unchanged = λ b. record { state = refl; ram = refl; stack = refl; roll = refl };
        counted = tt;
        lengths_kept = record { ram = refl; stack = refl; roll = refl };
        runs_on = λ j n. runs_on c.setting j n (machine_of c);
        machine_runs_on = λ j n. machine_runs_on c.setting j n (machine_of c);
        mov_clears = mov_clears c.setting;
      }

  ran_promise : refusal_of c ≡ Ok tt → RunPromise c ran
  unfolding call_of refusal_of
  ran_promise e =
      record {
        computed = rw e;
        stops = λ p. record { stop = _; steps = _; cycles = _; words = _; is = refl };
        refuses = violation _ (rw e);
        unchanged = λ b. absurd (b (none_given (causes c) e));
        counted = counted_ran;
        lengths_kept = lengths_ran;
        runs_on = λ j n. runs_on c.setting j n (machine_of c);
        machine_runs_on = λ j n. machine_runs_on c.setting j n (machine_of c);
        mov_clears = mov_clears c.setting;
      }

  pub run_promise : RunPromise c (call_of c)
  unfolding call_of
  run_promise = by_precheck (refusal_of c) (λ r e. rw e (refused_promise r e)) (λ e. rw e (ran_promise e))

-- a call that breaks no rule passes and is run; one that fails is refused
pub checks_pass : (c : Call) → NoneBroken (run_checks c) → refusal_of c ≡ Ok tt
unfolding refusal_of
checks_pass c p = passes (causes c) p

pub passed_checks : (c : Call) → refusal_of c ≡ Ok tt → NoneBroken (run_checks c)
unfolding refusal_of
passed_checks c e = none_given (causes c) e

pub passed_call : (c : Call) → refusal_of c ≡ Ok tt → call_of c ≡ reported (run_of c.setting c.budget (machine_of c))
unfolding call_of
passed_call c e = rw e

pub failed_call : (c : Call) (r : Refusal) → refusal_of c ≡ Err r → call_of c ≡ refused_of r c
unfolding call_of
failed_call c r e = rw e

-- a call that passes has a budget within its limit
pub passed_budget : (c : Call) → refusal_of c ≡ Ok tt → c.budget ≤ max_budget
unfolding refusal_of
passed_budget c e = ltb-false _ _ (none_given (causes c) e).1.1.0

-- ---- running time

module _ (cycles clock : ℕ) where
  number_of_time : time_number (time_of cycles clock) ≡ first_broken (time_checks cycles clock)
  unfolding time_of first_broken
  number_of_time =
      by_test (bad_clock clock) (λ q. rw (q, first_broken))
      (λ q. by_test (bad_cycles cycles) (λ r. rw (q, r, first_broken)) (λ r. rw (q, r, first_broken)))

  pub time_promise : TimePromise cycles clock (time_of cycles clock)
  unfolding time_of
  time_promise =
      record {
        computed = refl;
        timed = λ p. rw (p.0, p.1.0);
        refuses = rw number_of_time (first_violation (time_checks cycles clock) (omega arith, (omega arith, tt)));
      }
