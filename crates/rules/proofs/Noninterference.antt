-- Two lists of runs that are alike in all but the stack's bytes at the beginning. Both machines share one core; they read the byte at SP only
-- where an entry stands, and there both stack banks hold it.
-- Assumes nothing.
use Prim.Native.Nat.{ℕ, zero, suc, ◌+◌}
use native.Mathlib.Omega.{arith}
use mathlib.Core.Path.{◌≡◌, refl, sym, ap, ◌∙◌, subst}
use mathlib.Core.Logic.{◌≢◌}
use mathlib.Core.List.{List, [], ◌∷◌, ◌++◌}
use mathlib.Core.Bool.{true}
use lib.Dec.{eqb, ltb}
use lib.ListN.{length, get_or, set, length-set, get_or-eq_default}
use lib.Seq.{get_or-set_same, get_or-set_other}
use borrow.Author.Tests.{eqb-true, eqb-false, ltb-true, ltb-false}
use Rattle.slices.specs.Lists.{Bytes}
use Rattle.isa.specs.Table.{cycles_of}
use Rattle.isa.specs.declared.Class.{Class}
use Rattle.isa.specs.declared.Class.TheVariants as class
use Rattle.model.specs.Plan.{Plan}
use Rattle.model.specs.Run.{verdict_at, Ended, ended, run_of, trace_of, Call, Outcome, refusal_of, refused_of}
use Rattle.model.specs.Step.{Core, Machine, instr_at, applied_of, step_of}
use Rattle.model.specs.declared.Refusal.{Refusal}
use Rattle.model.specs.declared.Stop.{Stop}
use Rattle.slices.proofs.Bools.{by_test}
use Rattle.slices.specs.Sizes.{bad_bank}
use Rattle.model.proofs.Promises.{by_precheck}
use Rattle.model.proofs.Runs.{by_verdict, none_left, run_stops, run_goes}
use Rattle.model.proofs.Traces.{trace_stops, trace_goes}
use Rattle.rules.specs.Demand.{last_byte, last_return_to, LastFits, AgreeAt, addresses_of, stored_by, AgreeBy, AllAgree}
use Rattle.rules.specs.RunLists.{Snapshot, Start, resume, restart, Buffer, own, foreign, ListedRun, lent, call_in, outcome_of, left_by, Event, starts, steps, steps_in, start_events, run_machine, events_by, run_events}
use Rattle.rules.specs.Sheet.{Listing, class_at}
use Rattle.rules.specs.Tally.{Entry, byte, return_to, tally, Store, stores_of}
use Rattle.rules.proofs.AdmittedRules.{Admitted}
use Rattle.rules.proofs.ClassActs.{stored, reads_top, stores, plan_same}
use Rattle.rules.proofs.Frames.{Held, held_last}
use Rattle.rules.proofs.Invariant.{setting_of, Running, Safe, step_safe}
use Rattle.rules.proofs.ListedCalls.{ran_from, refused_call, passed_call}
use Rattle.rules.proofs.SafeRuns.{row_after, row_after_append, rest, goes_running, safe_same, safe_long, start_safe}
use Rattle.rules.proofs.Tests.{absurd_bool}

-- ---- stores

agree_same : (st st' : List ℕ) (q b : ℕ) → length st ≡ length st' → get_or (set st q b) q 0 ≡ get_or (set st' q b) q 0
agree_same st st' q b l =
    by_test (ltb q (length st))
    (λ h. let h' = ltb-true q (length st) h in get_or-set_same st q b 0 h' ∙ sym (get_or-set_same st' q b 0 (omega arith)))
    (λ h.
    let h' = ltb-false q (length st) h in
    get_or-eq_default (set st q b) 0 {n = q} (omega (arith, length-set st q b)) ∙ sym (get_or-eq_default (set st' q b) 0 {n = q} (omega (arith, length-set st' q b))))

agree_at : (st st' : List ℕ) (q b p : ℕ) → length st ≡ length st' → get_or st p 0 ≡ get_or st' p 0 → get_or (set st q b) p 0 ≡ get_or (set st' q b) p 0
agree_at st st' q b p l e =
    by_test (eqb p q) (λ h. rw (eqb-true p q h) (agree_same st st' q b l))
    (λ h. let ne : p ≢ q = eqb-false p q h in get_or-set_other st q p b 0 ne ∙ e ∙ sym (get_or-set_other st' q p b 0 ne))

agree_set : (ps st st' : List ℕ) (q b : ℕ) → length st ≡ length st' → AgreeAt ps st st' → AgreeAt ps (set st q b) (set st' q b)
agree_set [] st st' q b l a = tt
agree_set (p ∷ ps) st st' q b l a = (agree_at st st' q b p l a.0, agree_set ps st st' q b l a.1)

agree_stored : (xs : List Store) (ps st st' : List ℕ) → length st ≡ length st' → AgreeAt ps st st' → AgreeAt (addresses_of xs ps) (stored xs st) (stored xs st')
agree_stored [] ps st st' l a = a
agree_stored (x ∷ xs) ps st st' l a =
    agree_stored xs (x.at ∷ ps) (set st x.at x.byte') (set st' x.at x.byte') (simp length-set l)
    (agree_same st st' x.at x.byte' l, agree_set ps st st' x.at x.byte' l a)

-- ---- a step

-- where a class reads the byte at SP, it is the last entry's
tops_same : (k : Class) (r t pc : ℕ) (row : List Entry) (st st' : List ℕ) (sp : ℕ) → LastFits k r t pc row → reads_top k ≡ true → Held st row → Held st' row
    → sp + length row ≡ 255 → get_or st sp 0 ≡ get_or st' sp 0
tops_same (class.Next e) r t pc row st st' sp f q h h' s = absurd_bool (sym q)
tops_same (class.Jump a) r t pc row st st' sp f q h h' s = absurd_bool (sym q)
tops_same (class.Branch a n) r t pc row st st' sp f q h h' s = absurd_bool (sym q)
tops_same class.JumpReg r t pc row st st' sp f q h h' s = absurd_bool (sym q)
tops_same (class.Call a) r t pc row st st' sp f q h h' s = absurd_bool (sym q)
tops_same class.Return r t pc row st st' sp (last_return_to {row = w}) q h h' s = held_last st sp (return_to pc) w s h ∙ sym (held_last st' sp (return_to pc) w s h')
tops_same (class.Push x) r t pc row st st' sp f q h h' s = absurd_bool (sym q)
tops_same class.Pop r t pc row st st' sp (last_byte {row = w}) q h h' s = held_last st sp (byte t r) w s h ∙ sym (held_last st' sp (byte t r) w s h')
tops_same (class.Swap x) r t pc row st st' sp (last_byte {row = w}) q h h' s = held_last st sp (byte t r) w s h ∙ sym (held_last st' sp (byte t r) w s h')
tops_same class.Halt r t pc row st st' sp f q h h' s = absurd_bool (sym q)

abbrev on : Core → List ℕ → Machine
on k st = record { core = k; stack = st }

module _ (L : Listing) (A : Admitted L) (bytes : Bytes L.list) where
  -- the same step from another stack, and what either leaves in its own
  step_stores : (keys : List ℕ) (k : Core) (st : List ℕ)
      → step_of (setting_of L keys) (on k st) ≡ on (step_of (setting_of L keys) (on k st)).core (stored (stores_of (class_at L k.state.pc) k.state) st)
  unfolding step_of applied_of
  step_stores keys k st =
      ap (on (step_of (setting_of L keys) (on k st)).core)
      (stores k.state (get_or st k.state.sp 0) k.ram keys (instr_at L.program k.state.pc) st)

  core_same : (keys : List ℕ) {row : List Entry} (k : Core) (st st' : List ℕ) → Running L row (on k st) → Running L row (on k st')
      → (step_of (setting_of L keys) (on k st')).core ≡ (step_of (setting_of L keys) (on k st)).core
  unfolding step_of applied_of
  core_same keys {row} k st st' l l' =
      let i = instr_at L.program k.state.pc in
      let f = (step_safe L A bytes keys l).0 in
      let e = plan_same k.state (get_or st k.state.sp 0) (get_or st' k.state.sp 0) k.ram keys i
      (λ q. tops_same (class_at L k.state.pc) _ _ _ row st st' k.state.sp f.last_fits q l.held l'.held l.sp_is) in
      ap (λ (x : Plan). (applied_of x (cycles_of i) (on k st)).core) (sym e)

  step_same : (keys : List ℕ) {row : List Entry} (k : Core) (st st' : List ℕ) → Running L row (on k st) → Running L row (on k st')
      → step_of (setting_of L keys) (on k st') ≡ on (step_of (setting_of L keys) (on k st)).core (stored (stores_of (class_at L k.state.pc) k.state) st')
  step_same keys k st st' l l' =
      step_stores keys k st' ∙ ap (λ (c : Core). on c (stored (stores_of (class_at L k.state.pc) k.state) st')) (core_same keys k st st' l l')

  -- ---- a run

  record RunPair (row : List Entry) (ps : List ℕ) (e e' : Ended) (es : List Event) : Type 0 where
    same_stop : e.stop ≡ e'.stop
    core_is : e.machine.core ≡ e'.machine.core
    agree : AgreeAt (stored_by L es ps) e.machine.stack e'.machine.stack
    safe : Safe L (row_after L row es) e.machine
    safe' : Safe L (row_after L row es) e'.machine

  pair_ends : {row : List Entry} {ps : List ℕ} (k : Core) (st st' : List ℕ) (x : Stop) → Safe L row (on k st) → Safe L row (on k st') → AgreeAt ps st st'
      → RunPair row ps (ended x (on k st)) (ended x (on k st')) []
  pair_ends k st st' x g g' a = record { same_stop = refl; core_is = refl; agree = a; safe = g; safe' = g' }

  run_pair : (keys : List ℕ) (n : ℕ) {row : List Entry} (ps : List ℕ) (k : Core) (st st' : List ℕ) → Safe L row (on k st) → Safe L row (on k st') → AgreeAt ps st st'
      → RunPair row ps (run_of (setting_of L keys) n (on k st)) (run_of (setting_of L keys) n (on k st')) (steps_in (setting_of L keys) (trace_of (setting_of L keys) n (on k st)))
  unfolding trace_of
  run_pair keys zero ps k st st' g g' a =
      rw (none_left (setting_of L keys) (on k st), none_left (setting_of L keys) (on k st')) (pair_ends k st st' _ g g' a)
  run_pair keys (suc n) {row} ps k st st' g g' a =
      let x = setting_of L keys in
      by_verdict (verdict_at x (suc n) (on k st))
      (λ y e. rw (run_stops x (suc n) (on k st) y e, run_stops x (suc n) (on k st') y e, trace_stops x n (on k st) y e) (pair_ends k st st' y g g' a))
      (λ e.
      let l = goes_running L A bytes g keys (suc n) e in
      let l' = goes_running L A bytes g' keys (suc n) e in
      let ss = stores_of (class_at L k.state.pc) k.state in
      let q = step_stores keys k st in
      let q' = step_same keys k st st' l l' in
      let c = (step_of x (on k st)).core in
      let h : Safe L (tally L (on k st) row) (on c (stored ss st)) = subst (λ (m : Machine). Safe L (tally L (on k st) row) m) q (step_safe L A bytes keys l).1 in
      let h' : Safe L (tally L (on k st) row) (on c (stored ss st')) = subst (λ (m : Machine). Safe L (tally L (on k st) row) m) q' (step_safe L A bytes keys l').1 in
      let i = run_pair keys n (addresses_of ss ps) c (stored ss st) (stored ss st') h h' (agree_stored ss ps st st' (safe_long L A bytes g ∙ sym (safe_long L A bytes g')) a) in
      let i₁ : RunPair (tally L (on k st) row) (addresses_of ss ps) (run_of x n (step_of x (on k st))) (run_of x n (step_of x (on k st'))) (steps_in x (trace_of x n (step_of x (on k st)))) =
      subst (λ (m : Machine). RunPair (tally L (on k st) row) (addresses_of ss ps) (run_of x n m) (run_of x n (step_of x (on k st'))) (steps_in x (trace_of x n m))) (sym q)
      (subst (λ (m : Machine). RunPair (tally L (on k st) row) (addresses_of ss ps) (run_of x n (on c (stored ss st))) (run_of x n m) (steps_in x (trace_of x n (on c (stored ss st))))) (sym q') i) in
      rw (run_goes x n (on k st) e, run_goes x n (on k st') e, trace_goes x n (on k st) e)
      (record { same_stop = i₁.same_stop; core_is = i₁.core_is; agree = i₁.agree; safe = i₁.safe; safe' = i₁.safe' }))

  -- ---- a call

  record CallPair (row : List Entry) (ps : List ℕ) (w w' : Snapshot) (o o' : Outcome) (es : List Event) : Type 0 where
    agrees : AgreeBy o.answer (stored_by L es ps) o o'
    same_state : (left_by o w).state ≡ (left_by o' w').state
    same_ram : (left_by o w).ram ≡ (left_by o' w').ram
    agree : AgreeAt (stored_by L es ps) (left_by o w).stack (left_by o' w').stack
    safe : Safe L (row_after L row es) (rest (left_by o w))
    safe' : Safe L (row_after L row es) (rest (left_by o' w'))

  stored_by_append : (ps : List ℕ) (es fs : List Event) → stored_by L (es ++ fs) ps ≡ stored_by L fs (stored_by L es ps)
  stored_by_append ps [] fs = refl
  stored_by_append ps (starts ∷ es) fs = stored_by_append ps es fs
  stored_by_append ps (steps x m ∷ es) fs = stored_by_append (addresses_of (stores_of (class_at L m.core.state.pc) m.core.state) ps) es fs

  start_stores : (ps : List ℕ) (b : Start) → stored_by L (start_events b) ps ≡ ps
  start_stores ps resume = refl
  start_stores ps (restart regs z c s) = refl

  -- the same snapshot with another stack
  abbrev with_stack : Snapshot → List ℕ → Snapshot
  with_stack w st = record { state = w.state; ram = w.ram; stack = st }

  ran_pair : (row : List Entry) (ps : List ℕ) (r : ListedRun) (w : Snapshot) (st : List ℕ) → Safe L row (rest w) → Safe L row (rest (with_stack w st)) → AgreeAt ps w.stack st
      → CallPair row ps w (with_stack w st) (ran_from L.program r w) (ran_from L.program r (with_stack w st)) (events_by (ran_from L.program r w).answer L.program r w)
  ran_pair row ps r w st g g' a =
      let h = start_safe L A bytes r w row r.start refl g in
      let h' = start_safe L A bytes r (with_stack w st) row r.start refl g' in
      let i = run_pair r.keys r.budget ps (run_machine r w).core w.stack st h.1 h'.1 a in
      let es = steps_in (setting_of L r.keys) (trace_of (setting_of L r.keys) r.budget (run_machine r w)) in
      let q : stored_by L (start_events r.start ++ es) ps ≡ stored_by L es ps =
      stored_by_append ps (start_events r.start) es ∙ ap (stored_by L es) (start_stores ps r.start) in
      record {
        agrees =
            record {
              answer = rw (i.same_stop, i.core_is);
              state = ap (λ (k : Core). k.state) i.core_is;
              ram = ap (λ (k : Core). k.ram) i.core_is;
              roll = ap (λ (k : Core). k.roll) i.core_is;
              stack = rw q i.agree;
            };
        same_state = ap (λ (k : Core). k.state) i.core_is;
        same_ram = ap (λ (k : Core). k.ram) i.core_is;
        agree = rw q i.agree;
        safe = rw row_after_append (safe_same L A bytes _ refl refl i.safe);
        safe' = rw row_after_append (safe_same L A bytes _ refl refl i.safe');
      }

  refused_pair : (row : List Entry) (ps : List ℕ) (w : Snapshot) (st : List ℕ) (y : Refusal) (c c' : Call)
      → Safe L row (rest w) → Safe L row (rest (with_stack w st)) → AgreeAt ps w.stack st
      → CallPair row ps w (with_stack w st) (refused_of y c) (refused_of y c') []
  refused_pair row ps w st y c c' g g' a =
      record { agrees = refl; same_state = refl; same_ram = refl; agree = a; safe = g; safe' = g' }

  -- a call of either list is judged alike: a stack bank of the list has 256 bytes, and a foreign buffer is the same for both
  same_bank : (b : Buffer) (st st' : List ℕ) → length st ≡ 256 → length st' ≡ 256 → bad_bank (lent b st) ≡ bad_bank (lent b st')
  same_bank own st st' l l' = rw (l, l')
  same_bank (foreign k q) st st' l l' = refl

  same_refusal : (r : ListedRun) (w : Snapshot) (st : List ℕ) → length w.stack ≡ 256 → length st ≡ 256
      → refusal_of (call_in L.program r w) ≡ refusal_of (call_in L.program r (with_stack w st))
  unfolding refusal_of
  same_refusal r w st l l' = rw (same_bank r.stack w.stack st l l')

  call_pair : (row : List Entry) (ps : List ℕ) (r : ListedRun) (w : Snapshot) (st : List ℕ) → Safe L row (rest w) → Safe L row (rest (with_stack w st))
      → AgreeAt ps w.stack st
      → CallPair row ps w (with_stack w st) (outcome_of L.program r w) (outcome_of L.program r (with_stack w st)) (run_events L.program r w)
  call_pair row ps r w st g g' a =
      let q = same_refusal r w st (safe_long L A bytes g) (safe_long L A bytes g') in
      by_precheck (refusal_of (call_in L.program r w))
      (λ y e. rw (refused_call L.program r w y e, refused_call L.program r (with_stack w st) y (sym q ∙ e)) (refused_pair row ps w st y (call_in L.program r w) (call_in L.program r (with_stack w st)) g g' a))
      (λ e. rw (passed_call L.program r w e, passed_call L.program r (with_stack w st) (sym q ∙ e)) (ran_pair row ps r w st g g' a))

  -- ---- a list of runs

  pub list_pair : (rs : List ListedRun) (row : List Entry) (ps : List ℕ) (w w' : Snapshot) → w.state ≡ w'.state → w.ram ≡ w'.ram
      → Safe L row (rest w) → Safe L row (rest w') → AgreeAt ps w.stack w'.stack → AllAgree L ps rs w w'
  list_pair [] row ps w w' p q g g' a = tt
  list_pair (r ∷ rs) row ps w w' p q g g' a =
      let v : with_stack w w'.stack ≡ w' = rw (p, q) in
      let h : CallPair row ps w w' (outcome_of L.program r w) (outcome_of L.program r w') (run_events L.program r w) =
      subst (λ (u : Snapshot). CallPair row ps w u (outcome_of L.program r w) (outcome_of L.program r u) (run_events L.program r w)) v
      (call_pair row ps r w w'.stack g (subst (λ (u : Snapshot). Safe L row (rest u)) (sym v) g') a) in
      (h.agrees, list_pair rs _ _ (left_by (outcome_of L.program r w) w) (left_by (outcome_of L.program r w') w') h.same_state h.same_ram h.safe h.safe' h.agree)
