-- Where some sheet and list are admitted, the draft of settled words is admitted too, and no admitted sheet and list say less than it does.
-- Rules 9, 11, 12 and 13 hold of the draft since they hold of the admitted listing at the same address; 8, 14, 15 and 16 since no demand is
-- open; 10 since the draft has every mark that the admitted sheet has.
-- Assumes nothing.
use Prim.Native.Nat.{ℕ, zero, suc, ◌+◌, ◌*◌, ◌%◌, ◌≤◌, ◌<◌, zero-le}
use native.Mathlib.Omega.{arith}
use mathlib.Core.Path.{◌≡◌, sym, ap, ◌∙◌, subst}
use mathlib.Core.Logic.{◌≢◌}
use mathlib.Core.List.{List, [], ◌∷◌, ◌++◌}
use mathlib.Core.Bool.{Bool, true, false}
use lib.ListN.{length, get_or}
use lib.Dec.{eqb, ltb}
use borrow.Author.Tests.{eqb-true, ltb-false, ltb-true, eq-eqb, ne_eqb, lt-ltb, le-ltb}
use Rattle.slices.specs.Lists.{Bytes}
use Rattle.isa.specs.declared.Class.{Class}
use Rattle.isa.specs.declared.Class.TheVariants as class
use Rattle.slices.proofs.Bools.{by_test, both, neither}
use Rattle.rules.specs.Grounds.{find, callee}
use Rattle.rules.specs.Sheet.{Listing, described, marked, routine, depth, routines, entry, need, class_at}
use Rattle.rules.specs.Successors.{Successor, successors}
use Rattle.rules.proofs.AdmittedRules.{described_below, find_passes, FitsAll, CallFits, Rules, EntryFits}
use Rattle.rules.proofs.Tests.{absurd_bool}
use Rattle.drawings.specs.Drawn.{NeedsAtLeast}
use Rattle.drawings.specs.Reached.{Among, first, later, Reached, at_start, by_successor, by_call}
use Rattle.drawings.specs.internal.Cells.{seen, need_in, depth_in, entry_in, mark_in, cell_in}
use Rattle.drawings.specs.internal.Demands.{Demand, entry_cell, room_of, capped, target_of, called, following, demands_of, demands_at}
use Rattle.drawings.specs.internal.Visits.{is_open, Settled}
use Rattle.drawings.specs.internal.Drafts.{is_entry, rank, draft_of}
use Rattle.drawings.proofs.Counting.{find_low, count, count_within, count_mono, count_more}
use Rattle.drawings.proofs.Keeping.{Kept, other_entry}
use Rattle.drawings.proofs.Weights.{Has}
use Rattle.drawings.proofs.Bounds.{capped_is, need_byte, Below, Sound, AllAllowed, room_within, demands_allowed, below_256, visits_sound}
use Rattle.drawings.proofs.DraftParts.{rank_zero, rank_step, rank_same, rank_mono, rank_more, Placed, placed_at, unseen_word, unseen_described, Shown, shown, routines_are, list_length, sheet_length, entry_listed}
use Rattle.drawings.proofs.Closed.{HasAll, closed_has, has_append}

room_deep : (k : Class) (d n : ℕ) → d ≤ room_of k d n
room_deep (class.Next e) d n = omega arith
room_deep (class.Jump t) d n = omega arith
room_deep (class.Branch t v) d n = omega arith
room_deep class.JumpReg d n = omega arith
room_deep (class.Call t) d n = omega arith
room_deep class.Return d n = omega arith
room_deep (class.Push r) d n = omega arith
room_deep class.Pop d n = omega arith
room_deep (class.Swap r) d n = omega arith
room_deep class.Halt d n = omega arith

-- every address of a list of successors is seen
abbrev SeenAll : List ℕ → List Successor → Type 0
SeenAll ws [] = Unit {0}
SeenAll ws (x ∷ xs) = (seen (get_or ws x.to 0) ≡ true) × SeenAll ws xs

seen_among : (ws : List ℕ) (x : Successor) (xs : List Successor) → Among x xs → SeenAll ws xs → seen (get_or ws x.to 0) ≡ true
seen_among ws x _ first h = h.0
seen_among ws x _ (later {y} {xs} i) h = seen_among ws x xs i h.1

-- the successors are followed, whatever depth and mark they are taken with
followed_seen :
    (ws : List ℕ) (a e d d' : ℕ) (v v' : Bool) (k : Class) → HasAll ws (following e (successors k a d v)) → SeenAll ws (successors k a d' v')
followed_seen ws a e d d' v v' (class.Next f) h = (h.0.is_seen, tt)
followed_seen ws a e d d' v v' (class.Jump t) h = (h.0.is_seen, tt)
followed_seen ws a e d d' v v' (class.Branch t n) h = (h.0.is_seen, (h.1.0.is_seen, tt))
followed_seen ws a e d d' v v' class.JumpReg h = (h.0.is_seen, tt)
followed_seen ws a e d d' v v' (class.Call t) h = (h.0.is_seen, tt)
followed_seen ws a e d d' v v' class.Return h = tt
followed_seen ws a e d d' v v' (class.Push r) h = (h.0.is_seen, tt)
followed_seen ws a e d d' v v' class.Pop h = (h.0.is_seen, tt)
followed_seen ws a e d d' v v' (class.Swap r) h = (h.0.is_seen, tt)
followed_seen ws a e d d' v v' class.Halt h = tt

module _ (A : Listing) (m : Kept A) (bytes : Bytes A.list) (ws : List ℕ) (settled : Settled A.program ws) where
  abbrev D : Listing
  D = draft_of A.program ws

  abbrev at : ℕ → ℕ
  at a = get_or ws a 0

  sound : Sound A m bytes ws
  sound = visits_sound A m bytes ws settled.visits

  pub below_at : (a : ℕ) → seen (at a) ≡ true → Below A m bytes a (cell_in (at a))
  below_at a q = sound.below a q

  pub low_at : (a : ℕ) → seen (at a) ≡ true → a < 256
  low_at a q = below_256 A m bytes a (cell_in (at a)) (below_at a q)

  rules_hold_at : (a : ℕ) → seen (at a) ≡ true → Rules A a (class_at A a)
  rules_hold_at a q = m.base.rules a (below_at a q).in_sheet

  -- every demand of a reached address is met
  met_at : (a : ℕ) → seen (at a) ≡ true → HasAll ws (demands_of (class_at A a) a (cell_in (at a)) (need_in (at (target_of (class_at A a)))))
  unfolding is_open demands_at
  met_at a q = closed_has (demands_of (class_at A a) a (cell_in (at a)) (need_in (at (target_of (class_at A a))))) ws (rw (q, demands_at) at (settled.closed a (low_at a q)))

  own_met : (a : ℕ) → seen (at a) ≡ true → Has (at (entry_in (at a))) (entry_cell (entry_in (at a)) (capped (room_of (class_at A a) (depth_in (at a)) (need_in (at (target_of (class_at A a)))))))
  own_met a q = (met_at a q).0

  called_met : (a : ℕ) → seen (at a) ≡ true → HasAll ws (called (class_at A a))
  called_met a q = (has_append ws (called (class_at A a)) _ (met_at a q).1).0

  follow_met : (a : ℕ) → seen (at a) ≡ true → HasAll ws (following (entry_in (at a)) (successors (class_at A a) a (depth_in (at a)) (mark_in (at a))))
  follow_met a q = (has_append ws (called (class_at A a)) _ (met_at a q).1).1

  -- the need of a routine is enough for each of its addresses
  own_room : (a : ℕ) → seen (at a) ≡ true → room_of (class_at A a) (depth_in (at a)) (need_in (at (target_of (class_at A a)))) ≤ need_in (at (entry_in (at a)))
  own_room a q =
      let k = class_at A a in
      let n = need_in (at (target_of k)) in
      let l = below_at a q in
      let w : room_of k (depth A a) n ≤ need A (routine A a) = room_within A m bytes ws sound a k (rules_hold_at a q) in
      let w' : room_of k (depth_in (at a)) n ≤ need A (routine A a) = rw l.depth_is w in
      let y = need_byte A m bytes (routine A a) in
      let h : capped (room_of k (depth_in (at a)) n) ≤ need_in (at (entry_in (at a))) = (own_met a q).enough in
      rw (capped_is (room_of k (depth_in (at a)) n) (omega arith)) at h

  -- ---- entries
  entry_is : (e : ℕ) → seen (at e) ≡ true → (r : ℕ) → r < routines A → e ≡ entry A r → is_entry ws e ≡ true
  unfolding is_entry
  entry_is e q r h s =
      let i : entry_in (at e) ≡ e = (below_at e q).entry_is ∙ ap (λ (x : ℕ). entry A (routine A x)) s ∙ ap (entry A) (m.base.entries r h).its_own ∙ sym s in
      rw (q, eq-eqb _ _ i)

  pub entry_seen : (e : ℕ) → is_entry ws e ≡ true → (seen (at e) ≡ true) × (entry_in (at e) ≡ e)
  unfolding is_entry
  entry_seen e h = let t = both (seen (at e)) _ h in (t.0, eqb-true _ _ t.1)

  zero_entry : is_entry ws 0 ≡ true
  zero_entry = entry_is 0 sound.begun 0 m.base.some_routine (sym m.base.entry_zero)

  pub own_entry : (a : ℕ) → seen (at a) ≡ true → is_entry ws (entry_in (at a)) ≡ true
  own_entry a q = entry_is (entry_in (at a)) (own_met a q).is_seen (routine A a) (m.named a (below_at a q).in_sheet) (below_at a q).entry_is

  -- no more routines than the admitted list has
  rank_few : (x : ℕ) → rank ws x ≤ count (λ r. ltb (entry A r) x) (routines A)
  unfolding rank
  rank_few zero = zero-le
  rank_few (suc x) =
      let r = rank_few x in
      let up : (y : ℕ) → ltb (entry A y) x ≡ true → ltb (entry A y) (suc x) ≡ true = λ y e. lt-ltb (entry A y) (suc x) (let h : entry A y < x = ltb-true _ _ e in omega arith) in
      by_test (is_entry ws x)
      (λ e.
      let s = entry_seen x e in
      let l = below_at x s.0 in
      let i : entry A (routine A x) ≡ x = sym l.entry_is ∙ s.1 in
      let c = count_more (λ r. ltb (entry A r) x) (λ r. ltb (entry A r) (suc x)) (routines A) (routine A x) up (m.named x l.in_sheet)
      (le-ltb (entry A (routine A x)) x (omega arith)) (lt-ltb (entry A (routine A x)) (suc x) (omega arith)) in
      rw (rank_step ws x e) (omega arith))
      (λ e. let c = count_mono (λ r. ltb (entry A r) x) (λ r. ltb (entry A r) (suc x)) (routines A) up in rw (rank_same ws x e) (omega arith))

  list_short : routines A ≤ 64
  unfolding routines
  list_short =
      let l1 = neither (eqb (length A.list % 2) 1) _ m.list_good in
      let l2 = neither (eqb (length A.list) 0) _ l1.1 in
      let h : length A.list ≤ 128 = ltb-false _ _ l2.1 in
      omega arith

  pub few : rank ws 256 ≤ 64
  few =
      let a = rank_few 256 in
      let b = count_within (λ r. ltb (entry A r) 256) (routines A) in
      let c = list_short in
      omega arith

  pub some : 0 < rank ws 256
  some = let a = rank_more ws 0 256 zero_entry (omega arith) in omega arith

  -- ---- what the drawn sheet says of a reached address
  pub is_shown_at : (a : ℕ) → seen (at a) ≡ true → Shown A.program ws a
  is_shown_at a q = shown A.program ws a (low_at a q) q

  entry_low : (e : ℕ) → is_entry ws e ≡ true → rank ws e < rank ws 256
  entry_low e h = rank_more ws e 256 h (low_at e (entry_seen e h).0)

  pub routine_at : (a : ℕ) → seen (at a) ≡ true → routine D a ≡ rank ws (entry_in (at a))
  routine_at a q =
      let r = (is_shown_at a q).routine_is in
      let l = entry_low (entry_in (at a)) (own_entry a q) in
      let f = few in
      omega arith

  pub need_at : (a : ℕ) → seen (at a) ≡ true → need D (routine D a) ≡ need_in (at (entry_in (at a)))
  need_at a q = ap (need D) (routine_at a q) ∙ (entry_listed A.program ws (entry_in (at a)) (low_at _ (own_met a q).is_seen) (own_entry a q)).1

  pub described_seen : (a : ℕ) → described D a ≡ true → seen (at a) ≡ true
  described_seen a d =
      by_test (seen (at a)) (λ q. q)
      (λ q. absurd_bool (sym d ∙ unseen_described A.program ws a (described_below D (sheet_length A.program ws) a d) q))

  -- ---- the drawn list
  entry_fits : (r : ℕ) → r < routines D → EntryFits D r
  entry_fits r h =
      let p = placed_at ws 256 r (rw (← routines_are A.program ws) h) in
      let e = p.place in
      let s = entry_seen e p.an_entry in
      let q = s.0 in
      let l = below_at e q in
      let i : entry D r ≡ e = ap (entry D) (sym p.rank_is) ∙ (entry_listed A.program ws e p.within p.an_entry).0 in
      let j : e ≡ entry A (routine A e) = sym s.1 ∙ l.entry_is in
      let d : depth A e ≡ 0 = ap (depth A) j ∙ (m.base.entries (routine A e) (m.named e l.in_sheet)).at_top in
      let o : mark_in (at e) ≡ true → false ≡ true = rw s.1 at (own_met e q).may_mark in
      let u : mark_in (at e) ≡ false = by_test (mark_in (at e)) (λ t. absurd_bool (sym (o t))) (λ t. t) in
      record {
        is_described = rw i (is_shown_at e q).is_described;
        its_own = rw i (routine_at e q ∙ ap (rank ws) s.1 ∙ p.rank_is);
        at_top = rw i ((is_shown_at e q).depth_is ∙ l.depth_is ∙ d);
        unmarked = rw i ((is_shown_at e q).marked_is ∙ u);
      }

  -- ---- the rules at a reached address
  -- a call's target is an entry
  target_entry : (a t : ℕ) → seen (at a) ≡ true → class_at A a ≡ class.Call t → is_entry ws t ≡ true
  target_entry a t q k =
      let f = (rules_hold_at a q).calls t k in
      let e : HasAll ws (called (class.Call t)) = subst (λ (x : Class). HasAll ws (called x)) k (called_met a q) in
      entry_is t e.0.is_seen (callee A t) f.in_list (sym f.an_entry)

  callee_rank : (t : ℕ) → is_entry ws t ≡ true → (callee D t < routines D) × (entry D (callee D t) ≡ t)
  unfolding callee
  callee_rank t h =
      let f : ℕ → Bool = λ r. eqb (entry D r) t in
      let s = entry_seen t h in
      let i = (entry_listed A.program ws t (low_at t s.0) h).0 in
      let l = entry_low t h in
      let n = routines_are A.program ws in
      let g : find f 0 (routines D) ≤ rank ws t = find_low f (routines D) 0 (rank ws t) zero-le (omega arith) (eq-eqb _ _ i) in
      let c : find f 0 (routines D) < routines D = omega arith in
      (c, eqb-true _ _ (find_passes f (routines D) 0 (omega arith)))

  call_fits : (a t : ℕ) → seen (at a) ≡ true → class_at A a ≡ class.Call t → CallFits D a t
  call_fits a t q k =
      let h = target_entry a t q k in
      let s = entry_seen t h in
      let c = callee_rank t h in
      let o : callee D t ≡ rank ws t = sym (entry_fits (callee D t) c.0).its_own ∙ ap (routine D) c.1 ∙ routine_at t s.0 ∙ ap (rank ws) s.1 in
      let n : need D (callee D t) ≡ need_in (at t) = ap (need D) o ∙ (entry_listed A.program ws t (low_at t s.0) h).1 in
      let w : depth_in (at a) + 1 + need_in (at t) ≤ need_in (at (entry_in (at a))) = rw k at (own_room a q) in
      record { in_list = c.0; an_entry = c.1; has_room = rw ((is_shown_at a q).depth_is, n, need_at a q) w }

  follow_fits : (a : ℕ) → seen (at a) ≡ true → (xs : List Successor) → HasAll ws (following (entry_in (at a)) xs) → AllAllowed A m bytes (following (entry_in (at a)) xs) → FitsAll D a xs
  follow_fits a q [] h k = tt
  follow_fits a q (x ∷ xs) h k =
      let t = x.to in
      let s = h.0.is_seen in
      let l = below_at t s in
      let b = k.0.below in
      let e : entry_in (at t) ≡ entry_in (at a) = l.entry_is ∙ sym b.entry_is in (
        record {
          is_described = (is_shown_at t s).is_described;
          same_routine = routine_at t s ∙ ap (rank ws) e ∙ sym (routine_at a q);
          same_depth = (is_shown_at t s).depth_is ∙ l.depth_is ∙ sym b.depth_is;
          may_mark = λ v. h.0.may_mark (sym (is_shown_at t s).marked_is ∙ v);
        },
        follow_fits a q xs h.1 k.1,
      )

  ask_rest : (xs ys : List Demand) → AllAllowed A m bytes (xs ++ ys) → AllAllowed A m bytes ys
  ask_rest [] ys h = h
  ask_rest (x ∷ xs) ys h = ask_rest xs ys h.1

  follow_asks : (a : ℕ) → seen (at a) ≡ true → AllAllowed A m bytes (following (entry_in (at a)) (successors (class_at A a) a (depth_in (at a)) (mark_in (at a))))
  unfolding demands_at
  follow_asks a q = ask_rest (called (class_at A a)) _ (demands_allowed A m bytes ws (sound) a q).1

  draft_rules : (a : ℕ) → described D a ≡ true → Rules D a (class_at A a)
  draft_rules a d =
      let q = described_seen a d in
      let l = below_at a q in
      let r = rules_hold_at a q in
      let w = is_shown_at a q in
      let k = class_at A a in
      record {
        depth_there = rw (w.depth_is, need_at a q) (let o = own_room a q in let p = room_deep k (depth_in (at a)) (need_in (at (target_of k))) in omega arith);
        not_jump_reg = r.not_jump_reg;
        v_marked = λ v. w.marked_is ∙ l.marks (r.v_marked v);
        own = λ v. rw (w.depth_is, l.depth_is) (r.own v);
        returns = λ v.
            let x = r.returns v in
            let y : entry_in (at a) ≢ 0 = λ z. other_entry A m (routine A a) (m.named a l.in_sheet) x.0 (sym l.entry_is ∙ z) in
            let u = rank_more ws 0 (entry_in (at a)) zero_entry (omega arith) in
            (rw (routine_at a q) (omega arith), w.depth_is ∙ l.depth_is ∙ x.1);
        calls = λ t v. call_fits a t q v;
        fits = rw (w.depth_is, w.marked_is) (follow_fits a q (successors k a (depth_in (at a)) (mark_in (at a))) (follow_met a q) (follow_asks a q));
      }

  pub draft_kept : Kept D
  unfolding draft_of
  draft_kept =
      let n = list_length A.program ws in
      let f = few in
      let g = some in
      record {
        base = record {
          sheet_long = sheet_length A.program ws;
          some_routine = rw (routines_are A.program ws) g;
          entry_zero = ap (entry D) (sym (rank_zero ws)) ∙ (entry_listed A.program ws 0 (omega arith) zero_entry).0;
          entries = entry_fits;
          rules = draft_rules;
        };
        banks_good = m.banks_good;
        list_good =
            rw (n, ne_eqb ((2 * rank ws 256) % 2) 1 (λ e. omega arith), ne_eqb (2 * rank ws 256) 0 (λ e. omega arith))
            (le-ltb 128 (2 * rank ws 256) (omega arith));
        blank = λ a h e.
            by_test (seen (at a)) (λ q. absurd_bool (sym (is_shown_at a q).is_described ∙ e)) (λ q. unseen_word A.program ws a h q);
        named = λ a d.
            let q = described_seen a d in
            rw (routine_at a q, routines_are A.program ws) (entry_low (entry_in (at a)) (own_entry a q));
        going_on = λ a d. m.going_on a (below_at a (described_seen a d)).in_sheet;
      }

  -- ---- what the drawing says, against the admitted A
  reached_seen : (a : ℕ) → Reached A.program a → seen (at a) ≡ true
  reached_seen _ at_start = sound.begun
  reached_seen _ (by_successor a d v x r i) =
      let q = reached_seen a r in
      seen_among ws x (successors (class_at A a) a d v) i
      (followed_seen ws a (entry_in (at a)) (depth_in (at a)) d (mark_in (at a)) v (class_at A a) (follow_met a q))
  reached_seen _ (by_call a t r k) = (entry_seen t (target_entry a t (reached_seen a r) k)).0

  pub described_reached : (a : ℕ) → described D a ≡ true → Reached A.program a
  described_reached a d = (below_at a (described_seen a d)).is_reached

  pub reached_described : (a : ℕ) → Reached A.program a → described D a ≡ true
  reached_described a r = (is_shown_at a (reached_seen a r)).is_described

  pub marks_most : (a : ℕ) → described D a ≡ true → marked A a ≡ true → marked D a ≡ true
  marks_most a d v = let q = described_seen a d in (is_shown_at a q).marked_is ∙ (below_at a q).marks v

  placed_of : (r : ℕ) → r < routines D → Placed ws 256 r
  placed_of r h = placed_at ws 256 r (rw (← routines_are A.program ws) h)

  entry_of : (r : ℕ) (p : Placed ws 256 r) → (entry D r ≡ p.place) × (need D r ≡ need_in (at p.place))
  entry_of r p =
      let l = entry_listed A.program ws p.place p.within p.an_entry in
      (ap (entry D) (sym p.rank_is) ∙ l.0, ap (need D) (sym p.rank_is) ∙ l.1)

  pub needs_least : (r : ℕ) → r < routines D → NeedsAtLeast A (entry D r) (need D r)
  needs_least r h =
      let p = placed_of r h in
      let e = entry_of r p in
      let s = entry_seen p.place p.an_entry in
      let l = below_at p.place s.0 in
      let i : entry A (routine A p.place) ≡ entry D r = sym l.entry_is ∙ s.1 ∙ sym e.0 in
      record {
        number = routine A p.place;
        in_list = m.named p.place l.in_sheet;
        entry_is = i;
        at_least = λ q k j.
            let same : q ≡ routine A p.place = sym (m.base.entries q k).its_own ∙ ap (routine A) (j ∙ e.0) in
            rw (e.1, same) l.need_least;
      }

  pub ordered : (r q : ℕ) → r < q → q < routines D → entry D r < entry D q
  ordered r q h l =
      let x = placed_of r (omega arith) in
      let y = placed_of q l in
      let f = x.rank_is in
      let g = y.rank_is in
      rw ((entry_of r x).0, (entry_of q y).0)
      (by_test (ltb x.place y.place) (ltb-true _ _)
      (λ e. absurd (let c = rank_mono ws y.place x.place (ltb-false _ _ e) in omega arith)))
