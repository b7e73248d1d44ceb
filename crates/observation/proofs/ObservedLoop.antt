-- The invariant of an observed run's loop: the run goes on as a run's own loop does, and what is left of the executed addresses, counted and
-- noted from here, gives the counters and the log of them all.
-- Assumes nothing.
use Prim.Native.Nat.{ℕ, suc, ◌+◌, ◌-◌, ◌<◌, ◌≤◌}
use mathlib.Core.Path.{◌≡◌, refl, sym, ap, ◌∙◌, subst}
use mathlib.Core.Bool.{true, cond}
use mathlib.Core.List.{List, [], ◌∷◌}
use native.Mathlib.Omega.{arith}
use lib.Dec.{eqb, ltb}
use lib.ListN.{length, get_or, replicate, length-set}
use lib.Seq.{get_or-set_same, get_or-set_other, set_out}
use borrow.Author.Tests.{eqb-true, eqb-false, ltb-true, ltb-false}
use Rattle.std.specs.Prelude.{Option, Some, None}
use Rattle.slices.specs.Sizes.{bank_size}
use Rattle.slices.proofs.Bools.{by_test}
use Rattle.slices.proofs.Lookup.{zeros}
use Rattle.pages.specs.Page.{Page, page, write_of}
use Rattle.pages.proofs.Pages.{write_one}
use Rattle.model.specs.Run.{Outcome, ended, reported, run_of, max_budget}
use Rattle.model.specs.Step.{Setting, Machine, machine_at}
use Rattle.model.specs.declared.State.{State}
use Rattle.model.specs.declared.Stop.{Stop}
use Rattle.model.specs.declared.Stop.TheVariants.{Halted, Spent}
use Rattle.stepping.proofs.Attempts.{Attempted}
use Rattle.machine.proofs.RunLoop.{LoopInvariant, loop_starts, loop_goes, loop_stops, loop_halts, loop_ends}
use Rattle.executions.specs.Executed.{executed_of}
use Rattle.executions.specs.internal.Addresses.{Addresses}
use Rattle.executions.proofs.Counting.{counted, count_all, count_none, count_one, counts_are}
use Rattle.executions.proofs.Steps.{executed_goes, executed_stops, executed_none, executed_halted}
use Rattle.observation.specs.internal.Observed.{Noted, Observed}

pub record ObservedLoop (x : Setting) (budget : ℕ) (m₀ : Machine) (counters₀ log₀ : List ℕ) (m : Machine) (counters : List ℕ) (log : Page) : Type 0 where
  pub run : LoopInvariant x budget m₀ m
  pub counts : count_all (executed_of x (budget - m.core.steps) m) counters ≡ count_all (executed_of x budget m₀) counters₀
  pub notes : write_of (executed_of x (budget - m.core.steps) m) log ≡ write_of (executed_of x budget m₀) (page log₀ 0)
  pub addresses : Addresses (executed_of x (budget - m.core.steps) m) → Addresses (executed_of x budget m₀)
  -- no count is over the steps made, so none overflows
  pub few : (i : ℕ) → get_or counters i 0 ≤ m.core.steps
  pub counters_kept : length counters ≡ length counters₀
  pub log_kept : length log.bytes ≡ length log₀

pub observing_starts : (x : Setting) (budget : ℕ) (m : Machine) (counters log : List ℕ) → m.core.steps ≡ 0 → m.core.cycles ≡ 0
    → counters ≡ replicate bank_size 0 → ObservedLoop x budget m counters log m counters (page log 0)
observing_starts x budget m counters log z w q =
    let e : budget - m.core.steps ≡ budget = omega arith in
    record {
      run = loop_starts x budget m z w;
      counts = rw e;
      notes = rw e;
      addresses = λ b. rw e at b;
      few = λ i. rw (z, q) (omega (arith, zeros bank_size i));
      counters_kept = refl;
      log_kept = refl;
    }

nothing_written : (q : Page) → write_of [] q ≡ q
unfolding write_of
nothing_written q = refl

few_more : (c : List ℕ) (a k : ℕ) → ((i : ℕ) → get_or c i 0 ≤ k) → (i : ℕ) → get_or (counted c a) i 0 ≤ k + 1
few_more c a k f i =
    by_test (eqb i a)
    (λ e.
    let q : i ≡ a = eqb-true i a e in
    by_test (ltb a (length c))
    (λ l. rw (q, get_or-set_same c a (get_or c a 0 + 1) 0 (ltb-true a (length c) l)) (omega (arith, f a)))
    (λ l. rw (set_out c a (get_or c a 0 + 1) (ltb-false a (length c) l)) (omega (arith, f i))))
    (λ e. rw (get_or-set_other c a i (get_or c a 0 + 1) 0 (eqb-false i a e)) (omega (arith, f i)))

module _ {x : Setting} {budget : ℕ} {m₀ : Machine} {counters₀ log₀ : List ℕ} {s : State} {ram stack roll : List ℕ} {words k c : ℕ} {counters : List ℕ} {log : Page}
    (g : ObservedLoop x budget m₀ counters₀ log₀ (machine_at s ram stack roll words k c) counters log) where
  abbrev here : Machine
  here = machine_at s ram stack roll words k c

  left : k < budget → budget - k ≡ suc (budget - (k + 1))
  left h = omega arith

  -- so a counter may be counted up
  pub observing_fits : k < budget → budget ≤ max_budget → (i : ℕ) → get_or counters i 0 < 4294967295
  observing_fits h l i = omega (arith, g.few i)

  -- where nothing more is executed, counters and log are the whole run's
  module _ (w : counters₀ ≡ replicate bank_size 0) {o : Outcome} where
    ends_here : o ≡ reported (run_of x budget m₀) → executed_of x (budget - k) here ≡ [] → Observed x budget m₀ log₀ o counters log.bytes
    ends_here ran none =
        let all : List ℕ = executed_of x budget m₀ in
        record {
          ran = ran;
          counted =
              sym (count_none counters)
              ∙ sym (ap (λ (l : List ℕ). count_all l counters) none)
              ∙ g.counts
              ∙ ap (count_all all) w
              ∙ counts_are all;
          logged = ap (λ (q : Page). q.bytes) (sym (nothing_written log) ∙ sym (ap (λ (l : List ℕ). write_of l log) none) ∙ g.notes);
          addresses = g.addresses (subst (λ (l : List ℕ). Addresses l) (sym none) tt);
        }

    pub observing_halts : s.halted ≡ true → o ≡ reported (ended Halted here) → Observed x budget m₀ log₀ o counters log.bytes
    observing_halts h e = ends_here (e ∙ ap reported (loop_halts g.run h)) (executed_halted x (budget - k) here h)

    pub observing_ends : budget ≤ k → o ≡ reported (ended (cond s.halted Halted Spent) here) → Observed x budget m₀ log₀ o counters log.bytes
    observing_ends h e =
        let f : budget - k ≡ 0 = omega arith in
        ends_here (e ∙ ap reported (loop_ends g.run h)) (ap (λ (j : ℕ). executed_of x j here) f ∙ executed_none x here)

  module _ {s' : State} {ram' stack' roll' : List ℕ} {words' n : ℕ} {v : Option Stop} (h : k < budget)
      (a : Attempted x (machine_at s ram stack roll words) (machine_at s' ram' stack' roll' words') v n) where
    pub observing_stops : counters₀ ≡ replicate bank_size 0 → (y : Stop) → v ≡ Some y → {o : Outcome}
        → o ≡ reported (ended y (machine_at s' ram' stack' roll' words' k c)) → Observed x budget m₀ log₀ o counters log.bytes
    observing_stops w y q e =
        ends_here w (e ∙ ap reported (loop_stops g.run h a y q))
        (ap (λ (j : ℕ). executed_of x j here) (left h)
        ∙ executed_stops x (budget - (k + 1)) here y (a.verdict (budget - (k + 1)) k c ∙ q))

    -- the address of the step is noted
    pub observing_goes : n ≤ 255 → v ≡ None → length ram' ≡ length ram → length stack' ≡ length stack → length roll' ≡ length roll
        → {counters' : List ℕ} {log' : Page} → Noted s.pc counters log counters' log' → length log'.bytes ≡ length log.bytes
        → ObservedLoop x budget m₀ counters₀ log₀ (machine_at s' ram' stack' roll' words' (k + 1) (c + n)) counters' log'
    observing_goes few q r d l w kept =
        let e = w.counted in
        let there : Machine = machine_at s' ram' stack' roll' words' (k + 1) (c + n) in
        let behind : List ℕ = executed_of x (budget - (k + 1)) there in
        let rest : executed_of x (budget - k) here ≡ s.pc ∷ behind =
        ap (λ (j : ℕ). executed_of x j here) (left h)
        ∙ executed_goes x (budget - (k + 1)) here (a.verdict (budget - (k + 1)) k c ∙ q)
        ∙ ap (λ (m : Machine). s.pc ∷ executed_of x (budget - (k + 1)) m) (a.goes q k c) in
        record {
          run = loop_goes g.run h a few q r d l;
          counts =
              ap (count_all behind) e
              ∙ sym (count_one s.pc behind counters)
              ∙ sym (ap (λ (l : List ℕ). count_all l counters) rest)
              ∙ g.counts;
          notes =
              ap (write_of behind) w.logged
              ∙ sym (write_one s.pc behind log)
              ∙ sym (ap (λ (l : List ℕ). write_of l log) rest)
              ∙ g.notes;
          addresses = λ b. g.addresses (subst (λ (l : List ℕ). Addresses l) (sym rest) (w.address, b));
          few = λ i. rw e (few_more counters s.pc k g.few i);
          counters_kept = ap length e ∙ length-set counters s.pc (get_or counters s.pc 0 + 1) ∙ g.counters_kept;
          log_kept = kept ∙ g.log_kept;
        }
