-- The first and the second demand of a run, and the first of a running time, from what the exports promise.
-- Assumes nothing.
use mathlib.Core.Path.{◌≡◌, refl, sym, ap, ◌∙◌, subst}
use Prim.Native.Nat.{ℕ}
use mathlib.Core.List.{List}
use Rattle.std.specs.Prelude.{Result, Ok, Err}
use Rattle.slices.specs.Checks.{NoneBroken}
use Rattle.model.specs.Run.{Call, machine_of, Ended, run_of, reported, Outcome, refusal_of, call_of, answer_number}
use Rattle.model.specs.RunPromise.{Counted}
use Rattle.model.specs.Time.{time_of, time_number}
use Rattle.model.specs.declared.Ran.{Ran}
use Rattle.model.specs.declared.Refusal.{Refusal}
use Rattle.model.specs.declared.TimeError.{TimeError}
use Rattle.model.specs.declared.TimeError.TheVariants.{BadClock, BadCycles}
use Rattle.model.specs.declared.State.{State}
use Rattle.model.specs.declared.Stop.{Stop}
use Rattle.model.specs.declared.Stop.TheVariants.{Halted, Spent, Unsettled, Full}
use Rattle.model.proofs.Promises.{by_precheck, checks_pass, passed_checks, passed_call, failed_call}
use Rattle.run_numbers.specs.Runs.{stop_number, run_numbers, RunNumbered, time_numbers, TimeNumbered}
use Rattle.run_numbers.specs.declared.RunNumbers.{RunNumbers}
use Rattle.run_numbers.specs.declared.TimeNumbers.{TimeNumbers}
use Rattle.demands.specs.First.{run_rules, only_number, FourStops, halted, spent, unsettled, full, FirstOfRun, FirstOfTime}
use Rattle.demands.specs.Second.{stop_numbered, SecondOfRun}

number_is : (a : Result Ran Refusal) (s : State) → (run_numbers a s).0 ≡ answer_number a
number_is (Err y) s = refl
number_is (Ok y) s = refl

four_stops : (y : Stop) → FourStops (stop_number y)
four_stops Halted = halted
four_stops Spent = spent
four_stops Unsettled = unsettled
four_stops Full = full

numbered : (y : Stop) → stop_numbered y (stop_number y)
numbered Halted = refl
numbered Spent = refl
numbered Unsettled = refl
numbered Full = refl

module _ (c : Call) (r : RunNumbers) (ram stack roll : List ℕ) (n : RunNumbered c r ram stack roll) where
  abbrev ran : Ended
  ran = run_of c.setting c.budget (machine_of c)

  answered : r.0 ≡ answer_number (call_of c).answer
  answered = ap (λ (x : RunNumbers). x.0) n.report ∙ number_is (call_of c).answer (call_of c).state

  -- the outcome of a call that breaks no rule
  good : NoneBroken (run_rules c) → call_of c ≡ reported ran
  good p = passed_call c (checks_pass c p)

  good_report : NoneBroken (run_rules c) → r ≡ run_numbers (reported ran).answer (reported ran).state
  good_report p = n.report ∙ ap (λ (o : Outcome). run_numbers o.answer o.state) (good p)

  pub run_first : FirstOfRun c r ram stack roll
  run_first =
      record {
        decided = record { accepted = λ p. answered ∙ n.promise.refuses.accepts p; refused = λ b. rw answered (n.promise.refuses.refuses b) };
        stops = λ p. subst FourStops (sym (ap (λ (x : RunNumbers). x.1) (good_report p))) (four_stops ran.stop);
        unchanged = λ b.
            by_precheck (refusal_of c)
            (λ y e.
            let q = failed_call c y e in
            let s = n.report ∙ ap (λ (o : Outcome). run_numbers o.answer o.state) q in
            record {
              report = s ∙ sym (ap (λ (k : ℕ). only_number k c) (ap (λ (x : RunNumbers). x.0) s));
              ram_kept = n.ram_left ∙ ap (λ (o : Outcome). o.ram) q;
              stack_kept = n.stack_left ∙ ap (λ (o : Outcome). o.stack) q;
              roll_kept = n.roll_left ∙ ap (λ (o : Outcome). o.roll) q;
            })
            (λ e. absurd (b (passed_checks c e)));
      }

  pub run_second : SecondOfRun c r ram stack roll
  run_second p =
      let s = good_report p in
      let k : Counted c (reported ran).answer = subst (λ (o : Outcome). Counted c o.answer) (good p) n.promise.counted in
      let steps = ap (λ (x : RunNumbers). x.2) s in
      record {
        stop = subst (stop_numbered ran.stop) (sym (ap (λ (x : RunNumbers). x.1) s)) (numbered ran.stop);
        steps = steps ∙ k.0;
        cycles = ap (λ (x : RunNumbers). x.3) s ∙ k.1;
        words = ap (λ (x : RunNumbers). x.4) s;
        state = ap (λ (x : RunNumbers). x.5) s;
        ram_left = n.ram_left ∙ ap (λ (o : Outcome). o.ram) (good p);
        stack_left = n.stack_left ∙ ap (λ (o : Outcome). o.stack) (good p);
        roll_left = n.roll_left ∙ ap (λ (o : Outcome). o.roll) (good p);
        within_budget = rw steps k.2;
      }

-- ---- a running time

number_of_time : (t : Result ℕ TimeError) → (time_numbers t).0 ≡ time_number t
number_of_time (Ok n) = refl
number_of_time (Err BadClock) = refl
number_of_time (Err BadCycles) = refl

time_alone : (t : Result ℕ TimeError) → ((time_numbers t).0 ≡ 0 → ⊥) → time_numbers t ≡ ((time_numbers t).0, 0)
time_alone (Ok n) h = absurd (h refl)
time_alone (Err BadClock) h = refl
time_alone (Err BadCycles) h = refl

pub time_first : (cycles clock : ℕ) (r : TimeNumbers) → TimeNumbered cycles clock r → FirstOfTime cycles clock r
time_first cycles clock r n =
    let e : r.0 ≡ time_number (time_of cycles clock) = ap (λ (x : TimeNumbers). x.0) n.report ∙ number_of_time (time_of cycles clock) in
    record {
      decided = record { accepted = λ p. e ∙ n.promise.refuses.accepts p; refused = λ b. rw e (n.promise.refuses.refuses b) };
      nothing_else = rw n.report (time_alone (time_of cycles clock));
      timed = λ p. ap (λ (x : TimeNumbers). x.1) (n.report ∙ ap time_numbers (n.promise.timed p));
    }
