-- Runs and lists of runs of an admitted listing: every step is as the demand says, no stop is `unsettled`, and what is left is safe again.
-- Assumes nothing.
use Prim.Native.Nat.{ℕ, zero, suc}
use native.Mathlib.Omega.{arith}
use mathlib.Core.Path.{◌≡◌, refl, sym}
use mathlib.Core.List.{List, [], ◌∷◌, ◌++◌}
use mathlib.Core.Bool.{Bool, true}
use lib.ListN.{length}
use Rattle.std.specs.Prelude.{Some, None}
use Rattle.slices.specs.Lists.{Bytes}
use Rattle.isa.specs.declared.Instr.{Instr}
use Rattle.model.specs.Run.{tests_in, verdict_of, verdict_at, Ended, ended, run_of, trace_of, Outcome, Call, refusal_of, refused_of}
use Rattle.model.specs.State.{start_with}
use Rattle.model.specs.Step.{Setting, Core, Machine, machine_at, next_instr, step_of}
use Rattle.model.specs.declared.Refusal.{Refusal}
use Rattle.model.specs.declared.Stop.{Stop}
use Rattle.model.specs.declared.Stop.TheVariants.{Halted, Unsettled}
use Rattle.slices.proofs.Bools.{by_test}
use Rattle.model.proofs.Promises.{by_precheck}
use Rattle.model.proofs.Runs.{by_verdict, none_left, run_stops, run_goes}
use Rattle.model.proofs.Stops.{never_unsettled, last_settled}
use Rattle.model.proofs.Traces.{trace_stops, trace_goes, run_steps}
use Rattle.rules.specs.Demand.{Tallied, NotUnsettled, NoneUnsettled, Leads, TraceIs}
use Rattle.rules.specs.RunLists.{Snapshot, Start, resume, restart, ListedRun, call_in, outcome_of, left_by, Event, starts, steps, steps_in, start_events, run_machine, events_by, run_events, outcomes, events}
use Rattle.rules.specs.Sheet.{Listing, class_at}
use Rattle.rules.specs.Tally.{Entry, tally}
use Rattle.rules.proofs.AdmittedRules.{Admitted}
use Rattle.rules.proofs.Frames.{bottom}
use Rattle.rules.proofs.ListedCalls.{ran_from, refused_call, passed_call}
use Rattle.rules.proofs.Invariant.{setting_of, Running, Safe, running, done, step_safe, lands_entry}

-- ---- verdicts

pub halted_stops : (i : Instr) (n : ℕ) (k : Core) → k.state.halted ≡ true → verdict_of i n k ≡ Some Halted
unfolding verdict_of
halted_stops i n k e = rw e

-- ---- the steps of a run lead to what it leaves

leads : (x : Setting) (n : ℕ) (m : Machine) → Leads x m (trace_of x n m) (run_of x n m).machine
unfolding trace_of
leads x zero m = rw (none_left x m)
leads x (suc n) m =
    by_verdict (verdict_at x (suc n) m)
    (λ y e. rw (run_stops x (suc n) m y e, trace_stops x n m y e))
    (λ e. rw (run_goes x n m e, trace_goes x n m e) (refl, leads x n (step_of x m)))

pub trace_is : (x : Setting) (n : ℕ) (m : Machine) → TraceIs x n m
trace_is x n m = record { leads = leads x n m; counted = run_steps x n m }

-- ---- rows

-- the row after events
abbrev pub row_after : Listing → List Entry → List Event → List Entry
row_after L row [] = row
row_after L row (starts ∷ es) = row_after L [] es
row_after L row (steps x m ∷ es) = row_after L (tally L m row) es

tallied_append : (L : Listing) (row : List Entry) (es fs : List Event) → Tallied L row es → Tallied L (row_after L row es) fs → Tallied L row (es ++ fs)
tallied_append L row [] fs p q = q
tallied_append L row (starts ∷ es) fs p q = tallied_append L [] es fs p q
tallied_append L row (steps x m ∷ es) fs p q = (p.0, tallied_append L (tally L m row) es fs p.1 q)

pub row_after_append : (L : Listing) (row : List Entry) (es fs : List Event) → row_after L row (es ++ fs) ≡ row_after L (row_after L row es) fs
row_after_append L row [] fs = refl
row_after_append L row (starts ∷ es) fs = row_after_append L [] es fs
row_after_append L row (steps x m ∷ es) fs = row_after_append L (tally L m row) es fs

-- what lies between runs, as a machine
abbrev pub rest : Snapshot → Machine
rest w = machine_at w.state w.ram w.stack [] 0 0 0

module _ (L : Listing) (A : Admitted L) (bytes : Bytes L.list) where
  -- ---- a run

  pub verdict_settled : {row : List Entry} {m : Machine} → Safe L row m → (keys : List ℕ) (n : ℕ) → verdict_at (setting_of L keys) n m ≡ Some Unsettled → ⊥
  verdict_settled {m = m} (running l) keys n e =
      never_unsettled (next_instr (setting_of L keys) m) n m.core
      (by_test (tests_in (class_at L m.core.state.pc)) (λ q. rw (q, l.v_settled ((A.rules _ l.at_described).v_marked q))) (λ q. rw q)) e
  verdict_settled {m = m} (done h k) keys n e = let z : ◌≡◌ {A = ℕ} 0 1 = cc (halted_stops (next_instr (setting_of L keys) m) n m.core h) in omega arith

  -- a machine that goes on is running
  pub goes_running : {row : List Entry} {m : Machine} → Safe L row m → (keys : List ℕ) (n : ℕ) → verdict_at (setting_of L keys) n m ≡ None → Running L row m
  goes_running (running l) keys n e = l
  goes_running {m = m} (done h k) keys n e = absurd (let z : ◌≡◌ {A = ℕ} 0 1 = cc (halted_stops (next_instr (setting_of L keys) m) n m.core h) in omega arith)

  pub record RunSafe (row : List Entry) (e : Ended) (es : List Event) : Type 0 where
    pub tallied : Tallied L row es
    pub not_unsettled : e.stop ≡ Unsettled → ⊥
    pub safe : Safe L (row_after L row es) e.machine

  run_ends : {row : List Entry} {m : Machine} (y : Stop) → Safe L row m → (y ≡ Unsettled → ⊥) → RunSafe row (ended y m) []
  run_ends y g h = record { tallied = tt; not_unsettled = h; safe = g }

  pub run_safe : (keys : List ℕ) (n : ℕ) {row : List Entry} {m : Machine} → Safe L row m
      → RunSafe row (run_of (setting_of L keys) n m) (steps_in (setting_of L keys) (trace_of (setting_of L keys) n m))
  unfolding trace_of
  run_safe keys zero {row} {m} g = rw (none_left (setting_of L keys) m) (run_ends _ g (last_settled m.core.state.halted))
  run_safe keys (suc n) {row} {m} g =
      let x = setting_of L keys in
      by_verdict (verdict_at x (suc n) m)
      (λ y e. rw (run_stops x (suc n) m y e, trace_stops x n m y e) (run_ends y g (λ q. verdict_settled g keys (suc n) (cc))))
      (λ e.
      let h = step_safe L A bytes keys (goes_running g keys (suc n) e) in
      let i = run_safe keys n h.1 in
      rw (run_goes x n m e, trace_goes x n m e)
      (record { tallied = (h.0, i.tallied); not_unsettled = i.not_unsettled; safe = i.safe }))

  -- ---- a list of runs

  pub safe_same : {row : List Entry} {m : Machine} (m' : Machine) → m'.core.state ≡ m.core.state → m'.stack ≡ m.stack → Safe L row m → Safe L row m'
  safe_same m' p q (running l) =
      running
      (record {
        at_described = rw p l.at_described;
        frames = rw p l.frames;
        held = rw q l.held;
        sp_is = rw p l.sp_is;
        v_settled = rw p l.v_settled;
        stack_long = rw q l.stack_long;
      })
  safe_same m' p q (done h k) = done (rw p h) (rw q k)

  pub safe_long : {row : List Entry} {m : Machine} → Safe L row m → length m.stack ≡ 256
  safe_long (running l) = l.stack_long
  safe_long (done h k) = k

  pub begin_safe : (m : Machine) (regs : List ℕ) (z c s : Bool) → m.core.state ≡ start_with regs z c s → length m.stack ≡ 256 → Safe L [] m
  begin_safe m regs z c s e l =
      running (lands_entry L A bytes 0 (A.entries 0 A.some_routine) (rw e (sym A.entry_zero)) bottom tt (rw e (omega arith)) l)

  pub start_safe : (r : ListedRun) (w : Snapshot) (row : List Entry) (b : Start) → r.start ≡ b → Safe L row (rest w)
      → Tallied L row (start_events b) × Safe L (row_after L row (start_events b)) (run_machine r w)
  start_safe r w row resume e g = (tt, safe_same (run_machine r w) (rw e) refl g)
  start_safe r w row (restart regs z c s) e g = (tt, begin_safe (run_machine r w) regs z c s (rw e) (safe_long g))

  pub record CallSafe (row : List Entry) (r : ListedRun) (w : Snapshot) (o : Outcome) : Type 0 where
    pub tallied : Tallied L row (events_by o.answer L.program r w)
    pub not_unsettled : NotUnsettled o.answer
    pub safe : Safe L (row_after L row (events_by o.answer L.program r w)) (rest (left_by o w))

  ran_safe : (row : List Entry) (r : ListedRun) (w : Snapshot) → Safe L row (rest w) → CallSafe row r w (ran_from L.program r w)
  ran_safe row r w g =
      let h = start_safe r w row r.start refl g in
      let i = run_safe r.keys r.budget h.1 in
      record {
        tallied = tallied_append L row (start_events r.start) _ h.0 i.tallied;
        not_unsettled = i.not_unsettled;
        safe = rw row_after_append (safe_same _ refl refl i.safe);
      }

  -- a call that is refused leaves all as it was
  refused_safe : (row : List Entry) (r : ListedRun) (w : Snapshot) (y : Refusal) (c : Call) → Safe L row (rest w) → CallSafe row r w (refused_of y c)
  refused_safe row r w y c g = record { tallied = tt; not_unsettled = tt; safe = g }

  call_safe : (row : List Entry) (r : ListedRun) (w : Snapshot) → Safe L row (rest w) → CallSafe row r w (outcome_of L.program r w)
  call_safe row r w g =
      by_precheck (refusal_of (call_in L.program r w))
      (λ y e. rw (refused_call L.program r w y e) (refused_safe row r w y (call_in L.program r w) g))
      (λ e. rw (passed_call L.program r w e) (ran_safe row r w g))

  pub list_safe : (rs : List ListedRun) (row : List Entry) (w : Snapshot) → Safe L row (rest w)
      → Tallied L row (events L.program rs w) × NoneUnsettled (outcomes L.program rs w)
  unfolding events outcomes
  list_safe [] row w g = (tt, tt)
  list_safe (r ∷ rs) row w g =
      let o = outcome_of L.program r w in
      let h = call_safe row r w g in
      let i = list_safe rs (row_after L row (run_events L.program r w)) (left_by o w) h.safe in
      (tallied_append L row (run_events L.program r w) _ h.tallied i.0, (h.not_unsettled, i.1))
