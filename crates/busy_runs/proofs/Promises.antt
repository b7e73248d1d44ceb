-- From what the code does to the whole promise of a busy run: its refusals, and the run, counters and page of one that is made.
-- Assumes nothing.
use Prim.Native.Nat.{ℕ, ◌*◌, ◌≤◌}
use Rattle.std.specs.Prelude.{Result, Ok, Err}
use mathlib.Core.Path.{◌≡◌, refl, sym, ap, ◌∙◌, subst}
use mathlib.Core.Bool.{Bool, true, false, not}
use mathlib.Core.List.{List, ◌++◌}
use native.Mathlib.Omega.{arith}
use lib.Dec.{eqb, ltb}
use lib.ListN.{length, drop}
use borrow.Author.Tests.{eqb-true, ltb-false}
use Rattle.slices.specs.Lists.{total_of}
use Rattle.slices.proofs.Bools.{by_test, neither}
use Rattle.pages.specs.Page.{Page}
use Rattle.pages.proofs.Pages.{write_whole}
use Rattle.model.specs.Run.{Call, Outcome, machine_of, reported, run_of, max_budget, refusal_of, answer_number}
use Rattle.model.specs.declared.Refusal.{Refusal}
use Rattle.model.specs.declared.Refusal.TheVariants.{BadBank}
use Rattle.model.proofs.Promises.{precheck_number, first_named, passed_call, failed_call, passed_budget}
use Rattle.executions.specs.Executed.{counters_of}
use Rattle.executions.specs.internal.Addresses.{Addresses}
use Rattle.executions.proofs.Counting.{counters_add_up}
use Rattle.executions.proofs.Steps.{executed_fits, executed_steps}
use Rattle.ranking.specs.Busier.{count_at}
use Rattle.ranking.specs.internal.Selection.{ranked_by}
use Rattle.ranking.proofs.Order.{busier_order, ranked_ranking, ranked_short}
use Rattle.ranking.proofs.Ranks.{one_ranking}
use Rattle.busy_runs.specs.Busy.{Records, records, BusyOutcome, busy_outcome, counters_number, page_size, bad_records, busy_causes, busy_refusal_of, executed, steps_of, BusyPage, BusyRan, BusyBy, BusyPromise}
use Rattle.busy_runs.specs.Lines.{lines_of}
use Rattle.busy_runs.specs.internal.Writing.{PageWritten}
use Rattle.busy_runs.proofs.Listed.{counts_few, listed_executed, executed_listed}
use Rattle.busy_runs.proofs.Widths.{line_long, narrow_at, lines_long}

module _ (c : Call) (fits : c.budget ≤ max_budget) (bytes : Addresses (executed c)) where
  abbrev counters : List ℕ
  counters = counters_of (executed c)

  few : (a : ℕ) → count_at counters a ≤ max_budget
  few a = omega (arith, counts_few (executed c) a, executed_fits c.setting c.budget (machine_of c), fits)

  pub page_is : {page₀ page' : List ℕ} {lines : ℕ} → page_size ≤ length page₀ → PageWritten c.setting.program counters page₀ lines page'
      → BusyPage c counters page₀ lines page'
  page_is {page₀} {page'} {lines} room w =
      let p = c.setting.program in
      let l = ranked_by counters in
      let long = lines_long p counters few l w.narrow in
      let whole : page' ≡ lines_of p counters l ++ drop (length (lines_of p counters l)) page₀ =
      w.bytes ∙ ap (λ (q : Page). q.bytes) (write_whole (lines_of p counters l) page₀ (omega (arith, ranked_short counters))) in
      record {
        addresses = l;
        order = busier_order counters;
        ranking = ranked_ranking counters;
        only_one = λ k r. one_ranking (busier_order counters) _ k l r (ranked_ranking counters);
        all = λ a i. executed_listed (executed c) bytes a i;
        only = λ a i. listed_executed (executed c) a i;
        lines_are = w.lines_are;
        line_long = λ a i. line_long p counters few a (narrow_at p counters few l w.narrow a i);
        bytes = whole ∙ ap (λ (n : ℕ). lines_of p counters l ++ drop n page₀) (long ∙ ap (λ (n : ℕ). 35 * n) (sym w.lines_are));
      }

  -- the run made, its counters and its page
  pub made : (k : Records) (o : Outcome) (lines : ℕ) (counters' page' : List ℕ) → page_size ≤ length k.page
      → o ≡ reported (run_of c.setting c.budget (machine_of c)) → counters' ≡ counters
      → PageWritten c.setting.program counters' k.page lines page' → BusyRan c k (busy_outcome o lines (records counters' page'))
  made k o lines counters' page' room ran counted written =
      record {
        run = ran;
        counters = counted;
        sum =
            ap total_of counted
            ∙ counters_add_up (executed c) bytes
            ∙ sym (executed_steps c.setting c.budget (machine_of c) refl)
            ∙ ap (λ (x : Outcome). steps_of x.answer) (sym ran);
        page =
            subst (λ (l : List ℕ). BusyPage c l k.page lines page') (sym counted)
            (page_is room (subst (λ (l : List ℕ). PageWritten c.setting.program l k.page lines page') counted written));
      }

-- ---- the whole promise

not_false : (b : Bool) → not b ≡ false → b ≡ true
not_false true e = refl
not_false false e = cc

module _ (c : Call) (k : Records) where
  -- good counters and a good page leave a run's own refusals
  pub good_records : bad_records k ≡ false → busy_refusal_of c k ≡ refusal_of c
  unfolding refusal_of busy_refusal_of
  good_records g = rw g

  pub records_refused : bad_records k ≡ true → busy_refusal_of c k ≡ Err BadBank
  unfolding busy_refusal_of
  records_refused b = rw b

  passed_records : busy_refusal_of c k ≡ Ok tt → bad_records k ≡ false
  passed_records e =
      by_test (bad_records k)
      (λ b. absurd (let f = sym (records_refused b) ∙ e in let z : ◌≡◌ {A = ℕ} 0 1 = cc in omega arith))
      (λ g. g)

  -- a call that passes has a budget within its limit, and room for counters and page
  pub passed_sizes : busy_refusal_of c k ≡ Ok tt → (c.budget ≤ max_budget) × (length k.counters ≡ counters_number) × (page_size ≤ length k.page)
  passed_sizes e =
      let g = passed_records e in
      let sizes = neither (not (eqb (length k.counters) counters_number)) (ltb (length k.page) page_size) g in
      (passed_budget c (sym (good_records g) ∙ e), eqb-true _ _ (not_false _ sizes.0), ltb-false _ _ sizes.1)

  -- an outcome by what the rules say
  pub promised : (v : Result (Unit {0}) Refusal) (o : BusyOutcome) → v ≡ busy_refusal_of c k → BusyBy v c k o → BusyPromise c k o
  unfolding busy_refusal_of
  promised (Err r) o q b =
      record {
        outcome = subst (λ (v : Result (Unit {0}) Refusal). BusyBy v c k o) q b;
        refuses = first_named (busy_causes c k) _ (ap (λ (x : BusyOutcome). answer_number x.run.answer) b ∙ ap precheck_number q);
        as_run = λ g. ap (λ (x : BusyOutcome). x.run) b ∙ sym (failed_call c r (sym (good_records g) ∙ sym q));
      }
  promised (Ok p) o q b =
      record {
        outcome = subst (λ (v : Result (Unit {0}) Refusal). BusyBy v c k o) q b;
        refuses = first_named (busy_causes c k) _ (ap (λ (x : Outcome). answer_number x.answer) b.run ∙ ap precheck_number q);
        as_run = λ g. b.run ∙ sym (passed_call c (sym (good_records g) ∙ sym q));
      }
