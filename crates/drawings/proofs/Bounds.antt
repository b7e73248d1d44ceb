-- Every admitted sheet and list bounds the words from above: a word says no more than it must. By induction on the visits; the one place
-- where the rules of the admitted listing are used is `demands-allowed`.
-- Assumes nothing.
use Prim.Native.Nat.{ℕ, zero, suc, ◌+◌, ◌*◌, ◌≤◌, ◌<◌, zero-le}
use native.Mathlib.Omega.{arith}
use mathlib.Core.Path.{◌≡◌, refl, sym, ap, ◌∙◌, subst}
use mathlib.Core.List.{List, [], ◌∷◌, ◌++◌}
use mathlib.Core.Bool.{Bool, true, ◌&&◌}
use lib.ListN.{length, get_or, set, length-set, replicate, length-replicate}
use lib.Seq.{get_or-set_same, get_or-set_other}
use lib.Dec.{eqb, ltb}
use borrow.Author.Tests.{eqb-true, eqb-false, ltb-false, lt-ltb}
use Rattle.slices.specs.Lists.{Bytes}
use Rattle.isa.specs.declared.Class.{Class}
use Rattle.isa.specs.declared.Class.TheVariants as class
use Rattle.isa.specs.declared.OverflowEffect.{OverflowEffect}
use Rattle.isa.specs.declared.OverflowEffect.TheVariants.{Keeps, Settles, Unsettles}
use Rattle.slices.proofs.Bools.{by_test}
use Rattle.slices.proofs.Lookup.{zeros}
use Rattle.rules.specs.Grounds.{callee}
use Rattle.rules.specs.Sheet.{Listing, described, marked, routine, depth, routines, entry, need, class_at}
use Rattle.rules.specs.Successors.{Successor, successor, mark_after, successors}
use Rattle.rules.proofs.AdmittedRules.{described_below, Fits, FitsAll, Rules}
use Rattle.rules.proofs.Tests.{absurd_bool}
use Rattle.drawings.specs.Reached.{Among, first, later, Reached, at_start, by_successor, by_call}
use Rattle.drawings.specs.declared.Cell.{Cell}
use Rattle.drawings.specs.internal.Cells.{cell, packed, seen, need_in, depth_in, entry_in, mark_in, cell_in, joined, merged}
use Rattle.drawings.specs.internal.Demands.{Demand, demand, entry_cell, room_of, capped, target_of, called, following, demands_of, demands_at}
use Rattle.drawings.specs.internal.Visits.{met, meet, meet_all, visited, start, Visits, begin, visit}
use Rattle.drawings.proofs.Keeping.{Kept}
use Rattle.drawings.proofs.Weights.{Small, round, packed_seen, zero_unseen, unseen_zero, larger_within, merged_is_seen, merged_unseen, merged_seen}

pub capped_is : (x : ℕ) → x < 256 → capped x ≡ x
capped_is x h = rw (lt-ltb x 256 h)

capped_within : (x z : ℕ) → x ≤ z → capped x ≤ z
capped_within x z h = by_test (ltb x 256) (λ e. rw e h) (λ e. rw e (let l = ltb-false x 256 e in omega arith))

and_on : (a b : Bool) → a ≡ true → b ≡ true → a && b ≡ true
and_on a b p q = rw (p, q)

module _ (A : Listing) (m : Kept A) (bytes : Bytes A.list) where
  -- what a cell of the address a may say at most
  pub record Below (a : ℕ) (c : Cell) : Type 0 where
    pub is_reached : Reached A.program a
    pub entry_reached : Reached A.program c.entry
    pub in_sheet : described A a ≡ true
    pub entry_is : c.entry ≡ entry A (routine A a)
    pub depth_is : c.depth ≡ depth A a
    pub marks : marked A a ≡ true → c.mark ≡ true
    pub need_least : c.need ≤ need A (routine A a)

  entry_byte : (r : ℕ) → entry A r < 256
  unfolding entry
  entry_byte r = bytes (2 * r)

  pub need_byte : (r : ℕ) → need A r < 256
  unfolding need
  need_byte r = bytes (2 * r + 1)

  depth_byte : (a : ℕ) → depth A a < 256
  unfolding depth
  depth_byte a = omega arith

  below_small : (a : ℕ) (c : Cell) → Below a c → Small c
  below_small a c l =
      record {
        entry_small = rw l.entry_is (entry_byte (routine A a));
        depth_small = rw l.depth_is (depth_byte a);
        need_small = let h = l.need_least in let k = need_byte (routine A a) in omega arith;
      }

  below_joined : (a : ℕ) (u c : Cell) → Below a u → Below a c → Below a (joined u c)
  below_joined a u c l k =
      record {
        is_reached = l.is_reached;
        entry_reached = l.entry_reached;
        in_sheet = l.in_sheet;
        entry_is = l.entry_is;
        depth_is = l.depth_is;
        marks = λ q. and_on u.mark c.mark (l.marks q) (k.marks q);
        need_least = larger_within u.need c.need _ l.need_least k.need_least;
      }

  below_merged : (a w : ℕ) (c : Cell) → (seen w ≡ true → Below a (cell_in w)) → Below a c → Below a (cell_in (merged w c))
  below_merged a w c l k =
      by_test (seen w)
      (λ q.
      let j = below_joined a (cell_in w) c (l q) k in
      rw (merged_seen w c q) (subst (Below a) (sym (round (joined (cell_in w) c) (below_small a (joined (cell_in w) c) j))) j))
      (λ q. rw (merged_unseen w c q) (subst (Below a) (sym (round c (below_small a c k))) k))

  pub below_256 : (a : ℕ) (c : Cell) → Below a c → a < 256
  below_256 a c l = described_below A m.base.sheet_long a l.in_sheet

  -- ---- the words so far

  pub record Sound (ws : List ℕ) : Type 0 where
    pub long : length ws ≡ 256
    pub begun : seen (get_or ws 0 0) ≡ true
    pub below : (a : ℕ) → seen (get_or ws a 0) ≡ true → Below a (cell_in (get_or ws a 0))

  -- a demand that no admitted sheet denies
  pub record Allowed (d : Demand) : Type 0 where
    pub below : Below d.at d.want

  abbrev pub AllAllowed : List Demand → Type 0
  AllAllowed [] = Unit {0}
  AllAllowed (d ∷ ds) = Allowed d × AllAllowed ds

  allowed_append : (xs ys : List Demand) → AllAllowed xs → AllAllowed ys → AllAllowed (xs ++ ys)
  allowed_append [] ys h k = k
  allowed_append (x ∷ xs) ys h k = (h.0, allowed_append xs ys h.1 k)

  -- ---- an entry

  below_entry : (r n : ℕ) → r < routines A → Reached A.program (entry A r) → n ≤ need A r → Below (entry A r) (entry_cell (entry A r) n)
  below_entry r n h g l =
      let f = m.base.entries r h in
      record {
        is_reached = g;
        entry_reached = g;
        in_sheet = f.is_described;
        entry_is = rw f.its_own;
        depth_is = sym f.at_top;
        marks = λ q. absurd_bool (sym q ∙ f.unmarked);
        need_least = rw f.its_own l;
      }

  -- the same where the entry is known by another name
  entry_allowed : (e r n : ℕ) → entry A r ≡ e → r < routines A → Reached A.program e → n ≤ need A r → Allowed (demand e (entry_cell e n))
  entry_allowed e r n q h g l =
      record { below = subst (λ (x : ℕ). Below x (entry_cell x n)) q (below_entry r n h (subst (Reached A.program) (sym q) g) l) }

  -- the need found so far of a callee
  callee_need : (ws : List ℕ) → Sound ws → (t : ℕ) → callee A t < routines A → entry A (callee A t) ≡ t → need_in (get_or ws t 0) ≤ need A (callee A t)
  unfolding need_in
  callee_need ws s t h e =
      by_test (seen (get_or ws t 0))
      (λ q.
      let l = (s.below t q).need_least in
      let o : routine A t ≡ callee A t = ap (routine A) (sym e) ∙ (m.base.entries (callee A t) h).its_own in
      rw o at l)
      (λ q. rw (unseen_zero (get_or ws t 0) q) zero-le)

  -- 8 and 15
  pub room_within :
      (ws : List ℕ) → Sound ws → (a : ℕ) (k : Class) → Rules A a k
      → room_of k (depth A a) (need_in (get_or ws (target_of k) 0)) ≤ need A (routine A a)
  room_within ws s a (class.Next e) r = r.depth_there
  room_within ws s a (class.Jump t) r = r.depth_there
  room_within ws s a (class.Branch t n) r = r.depth_there
  room_within ws s a class.JumpReg r = r.depth_there
  room_within ws s a (class.Call t) r =
      let f = r.calls t refl in
      let n = callee_need ws s t f.in_list f.an_entry in
      let h = f.has_room in
      omega arith
  room_within ws s a class.Return r = r.depth_there
  room_within ws s a (class.Push x) r = r.depth_there
  room_within ws s a class.Pop r = r.depth_there
  room_within ws s a (class.Swap x) r = r.depth_there
  room_within ws s a class.Halt r = r.depth_there

  -- 14
  called_allowed : (a : ℕ) (k : Class) → ((t : ℕ) → k ≡ class.Call t → Reached A.program t) → Rules A a k → AllAllowed (called k)
  called_allowed a (class.Next e) g r = tt
  called_allowed a (class.Jump t) g r = tt
  called_allowed a (class.Branch t n) g r = tt
  called_allowed a class.JumpReg g r = tt
  called_allowed a (class.Call t) g r =
      let f = r.calls t refl in
      (entry_allowed t (callee A t) 0 f.an_entry f.in_list (g t refl) zero-le, tt)
  called_allowed a class.Return g r = tt
  called_allowed a (class.Push x) g r = tt
  called_allowed a class.Pop g r = tt
  called_allowed a (class.Swap x) g r = tt
  called_allowed a class.Halt g r = tt

  -- ---- 16

  pub after_more : (e : OverflowEffect) (v v' : Bool) → (v ≡ true → v' ≡ true) → mark_after e v ≡ true → mark_after e v' ≡ true
  after_more Keeps v v' h q = h q
  after_more Settles v v' h q = refl
  after_more Unsettles v v' h q = q

  -- a successor, with at least the marks of the sheet
  successor_allowed :
      (a e t d : ℕ) (v v' : Bool) → Reached A.program t → Reached A.program e → e ≡ entry A (routine A a)
      → Fits A a (successor t d v) → (v ≡ true → v' ≡ true) → Allowed (demand t (cell e d v' 0))
  successor_allowed a e t d v v' x y q f h =
      record {
        below = record {
          is_reached = x;
          entry_reached = y;
          in_sheet = f.is_described;
          entry_is = q ∙ ap (entry A) (sym f.same_routine);
          depth_is = sym f.same_depth;
          marks = λ p. h (f.may_mark p);
          need_least = zero-le;
        };
      }

  -- where an address of class k leads is reached
  abbrev Leads : ℕ → Class → Type 0
  Leads a k = (d : ℕ) (v : Bool) (x : Successor) → Among x (successors k a d v) → Reached A.program x.to

  successors_allowed :
      (a e : ℕ) (k : Class) (v v' : Bool) → Leads a k → Reached A.program e → e ≡ entry A (routine A a) → (v ≡ true → v' ≡ true)
      → FitsAll A a (successors k a (depth A a) v) → AllAllowed (following e (successors k a (depth A a) v'))
  successors_allowed a e (class.Next x) v v' g y q h f = (successor_allowed a e _ _ _ _ (g 0 v _ first) y q f.0 (after_more x v v' h), tt)
  successors_allowed a e (class.Jump t) v v' g y q h f = (successor_allowed a e _ _ _ _ (g 0 v _ first) y q f.0 h, tt)
  successors_allowed a e (class.Branch t n) v v' g y q h f =
      (successor_allowed a e _ _ _ _ (g 0 v _ first) y q f.0 h, (successor_allowed a e _ _ _ _ (g 0 v _ (later first)) y q f.1.0 h, tt))
  successors_allowed a e class.JumpReg v v' g y q h f = (successor_allowed a e _ _ _ _ (g 0 v _ first) y q f.0 h, tt)
  successors_allowed a e (class.Call t) v v' g y q h f = (successor_allowed a e _ _ _ _ (g 0 v _ first) y q f.0 (λ p. p), tt)
  successors_allowed a e class.Return v v' g y q h f = tt
  successors_allowed a e (class.Push x) v v' g y q h f = (successor_allowed a e _ _ _ _ (g 0 v _ first) y q f.0 h, tt)
  successors_allowed a e class.Pop v v' g y q h f = (successor_allowed a e _ _ _ _ (g 0 v _ first) y q f.0 h, tt)
  successors_allowed a e (class.Swap x) v v' g y q h f = (successor_allowed a e _ _ _ _ (g 0 v _ first) y q f.0 h, tt)
  successors_allowed a e class.Halt v v' g y q h f = tt

  -- ---- what an address demands, no admitted sheet denies

  pub demands_allowed :
      (ws : List ℕ) → Sound ws → (a : ℕ) → seen (get_or ws a 0) ≡ true
      → AllAllowed (demands_of (class_at A a) a (cell_in (get_or ws a 0)) (need_in (get_or ws (target_of (class_at A a)) 0)))
  demands_allowed ws s a q =
      let l = s.below a q in
      let r = m.base.rules a l.in_sheet in
      let k = class_at A a in
      let w = get_or ws a 0 in
      let n = need_in (get_or ws (target_of k) 0) in
      let h : capped (room_of k (depth_in w) n) ≤ need A (routine A a) =
      rw l.depth_is (capped_within (room_of k (depth A a) n) (need A (routine A a)) (room_within ws s a k r)) in (
        entry_allowed (entry_in w) (routine A a) _ (sym l.entry_is) (m.named a l.in_sheet) l.entry_reached h,
        allowed_append (called k) (following (entry_in w) (successors k a (depth_in w) (mark_in w)))
            (called_allowed a k (λ t. by_call a t l.is_reached) r)
            (rw l.depth_is
            (successors_allowed a (entry_in w) k (marked A a) (mark_in w) (λ d v x. by_successor a d v x l.is_reached) l.entry_reached l.entry_is l.marks r.fits)),
      )

  demands_there : (ws : List ℕ) → Sound ws → (a : ℕ) → AllAllowed (demands_at A.program ws a)
  unfolding demands_at
  demands_there ws s a = by_test (seen (get_or ws a 0)) (λ q. rw q (demands_allowed ws s a q)) (λ q. rw q tt)

  -- ---- a demand met keeps the bound

  set_sound : (ws : List ℕ) → Sound ws → (a : ℕ) (c : Cell) → Below a c → Sound (set ws a (merged (get_or ws a 0) c))
  set_sound ws s a c l =
      let h : a < length ws = rw s.long (below_256 a c l) in
      let v = merged (get_or ws a 0) c in
      record {
        long = length-set ws a v ∙ s.long;
        begun =
            by_test (eqb 0 a)
            (λ e.
            let i : 0 ≡ a = eqb-true 0 a e in
            rw (ap (λ (x : ℕ). get_or (set ws a v) x 0) i, get_or-set_same ws a v 0 h) (merged_is_seen (get_or ws a 0) c))
            (λ e. rw (get_or-set_other ws a 0 v 0 (eqb-false 0 a e)) s.begun);
        below = λ x.
            by_test (eqb x a)
            (λ e.
            let i : x ≡ a = eqb-true x a e in
            rw (i, get_or-set_same ws a v 0 h) (λ q. below_merged a (get_or ws a 0) c (s.below a) l))
            (λ e. rw (get_or-set_other ws a x v 0 (eqb-false x a e)) (s.below x));
      }

  meet_sound : (ws : List ℕ) (d : Demand) → Sound ws → Allowed d → Sound (meet ws d)
  unfolding meet
  meet_sound ws d s l = by_test (met ws d) (λ q. rw q s) (λ q. rw q (set_sound ws s d.at d.want l.below))

  meet_all_sound : (ds : List Demand) (ws : List ℕ) → Sound ws → AllAllowed ds → Sound (meet_all ws ds)
  meet_all_sound [] ws s l = s
  meet_all_sound (d ∷ ds) ws s l = meet_all_sound ds (meet ws d) (meet_sound ws d s l.0) l.1

  -- ---- the beginning

  zero_below : Below 0 (entry_cell 0 0)
  zero_below = (entry_allowed 0 0 0 m.base.entry_zero m.base.some_routine at_start zero-le).below

  start_sound : Sound start
  unfolding start
  start_sound =
      record {
        long = length-set (replicate 256 0) 0 (packed (entry_cell 0 0)) ∙ length-replicate {A = ℕ} 256 0;
        begun = rw (first_word) (packed_seen (entry_cell 0 0));
        below = below;
      }
    where
      first_word : get_or (set (replicate 256 0) 0 (packed (entry_cell 0 0))) 0 0 ≡ packed (entry_cell 0 0)
      first_word = get_or-set_same (replicate 256 0) 0 (packed (entry_cell 0 0)) 0 (omega arith)

      below : (a : ℕ) → seen (get_or (set (replicate 256 0) 0 (packed (entry_cell 0 0))) a 0) ≡ true → Below a (cell_in (get_or (set (replicate 256 0) 0 (packed (entry_cell 0 0))) a 0))
      below zero q = rw first_word (subst (Below 0) (sym (round (entry_cell 0 0) (below_small 0 (entry_cell 0 0) zero_below))) zero_below)
      below (suc a) q = absurd_bool (sym q ∙ ap seen (zeros 255 a) ∙ zero_unseen)

  visited_sound : (ws : List ℕ) (a : ℕ) → Sound ws → Sound (visited A.program ws a)
  unfolding visited
  visited_sound ws a s = meet_all_sound (demands_at A.program ws a) ws s (demands_there ws s a)

  pub visits_sound : (ws : List ℕ) → Visits A.program ws → Sound ws
  visits_sound _ begin = start_sound
  visits_sound _ (visit {ws} v a) = visited_sound ws a (visits_sound ws v)
