-- Two admitted sheets of the same banks agree wherever successors and calls lead from address 0: both describe the address, at one depth, in
-- the routine with one entry. By induction on how the address is reached.
-- Assumes nothing.
use Prim.Native.Nat.{ℕ, ◌+◌, ◌-◌, ◌<◌}
use mathlib.Core.Path.{◌≡◌, sym, ap, ◌∙◌, subst}
use mathlib.Core.List.{List, [], ◌∷◌}
use mathlib.Core.Bool.{Bool, true}
use Rattle.isa.specs.declared.Class.{Class}
use Rattle.isa.specs.declared.Class.TheVariants as class
use Rattle.model.specs.Step.{Program}
use Rattle.rules.specs.Grounds.{callee}
use Rattle.rules.specs.Sheet.{Listing, described, marked, routine, depth, routines, entry}
use Rattle.rules.specs.Successors.{Successor, successor, successors}
use Rattle.rules.proofs.AdmittedRules.{Fits, FitsAll, CallFits, EntryFits}
use Rattle.drawings.specs.Drawn.{listed}
use Rattle.drawings.specs.Reached.{Among, first, later, Reached, at_start, by_successor, by_call, class_in}
use Rattle.drawings.proofs.Keeping.{Kept}

-- every successor of a list leads to an address of which something holds
abbrev LeadTo : (ℕ → Type 0) → List Successor → Type 0
LeadTo P [] = Unit {0}
LeadTo P (x ∷ xs) = P x.to × LeadTo P xs

among_leads : (P : ℕ → Type 0) (x : Successor) (xs : List Successor) → LeadTo P xs → Among x xs → P x.to
among_leads P x xs h first = h.0
among_leads P x xs h (later {xs = ys} i) = among_leads P x ys h.1 i

-- what two sheets agree on at an address
pub record Agree (A B : Listing) (a : ℕ) : Type 0 where
  pub in_one : described A a ≡ true
  pub in_other : described B a ≡ true
  pub same_depth : depth A a ≡ depth B a
  pub same_entry : entry A (routine A a) ≡ entry B (routine B a)

module _ (p : Program) (s l s' l' : List ℕ) (m : Kept (listed p s l)) (m' : Kept (listed p s' l')) where
  abbrev A : Listing
  A = listed p s l

  abbrev B : Listing
  B = listed p s' l'

  -- two routines with one entry, each in its own list
  entries_agree : (r q : ℕ) → r < routines A → q < routines B → entry A r ≡ entry B q → Agree A B (entry A r)
  entries_agree r q h k e =
      let f = m.base.entries r h in
      let g : EntryFits B q = m'.base.entries q k in
      record {
        in_one = f.is_described;
        in_other = rw e g.is_described;
        same_depth = f.at_top ∙ rw e (sym g.at_top);
        same_entry = ap (entry A) f.its_own ∙ e ∙ rw e (ap (entry B) (sym g.its_own));
      }

  -- a successor of both sheets, which both have at the depth that its rule asks for
  follows : {a t d d' : ℕ} {v v' : Bool} → Agree A B a → d ≡ d' → Fits A a (successor t d v) → Fits B a (successor t d' v') → Agree A B t
  follows g e f f' =
      record {
        in_one = f.is_described;
        in_other = f'.is_described;
        same_depth = f.same_depth ∙ e ∙ sym f'.same_depth;
        same_entry = ap (entry A) f.same_routine ∙ g.same_entry ∙ ap (entry B) (sym f'.same_routine);
      }

  -- where an instruction leads hangs neither on the depth nor on the mark
  all_follow :
      (k : Class) (a d : ℕ) (v : Bool) → Agree A B a → FitsAll A a (successors k a (depth A a) (marked A a))
      → FitsAll B a (successors k a (depth B a) (marked B a)) → LeadTo (Agree A B) (successors k a d v)
  all_follow (class.Next e) a d v g f f' = (follows g g.same_depth f.0 f'.0, tt)
  all_follow (class.Jump t) a d v g f f' = (follows g g.same_depth f.0 f'.0, tt)
  all_follow (class.Branch t n) a d v g f f' =
      (follows g g.same_depth f.0 f'.0, (follows g g.same_depth f.1.0 f'.1.0, tt))
  all_follow class.JumpReg a d v g f f' = (follows g g.same_depth f.0 f'.0, tt)
  all_follow (class.Call t) a d v g f f' = (follows g g.same_depth f.0 f'.0, tt)
  all_follow class.Return a d v g f f' = tt
  all_follow (class.Push r) a d v g f f' = (follows g (ap (λ (n : ℕ). n + 1) g.same_depth) f.0 f'.0, tt)
  all_follow class.Pop a d v g f f' = (follows g (ap (λ (n : ℕ). n - 1) g.same_depth) f.0 f'.0, tt)
  all_follow (class.Swap r) a d v g f f' = (follows g g.same_depth f.0 f'.0, tt)
  all_follow class.Halt a d v g f f' = tt

  -- a call's target is an entry in both lists
  calls_agree : (a t : ℕ) → Agree A B a → class_in p a ≡ class.Call t → Agree A B t
  calls_agree a t g e =
      let f : CallFits A a t = (m.base.rules a g.in_one).calls t e in
      let f' : CallFits B a t = (m'.base.rules a g.in_other).calls t e in
      subst (Agree A B) f.an_entry (entries_agree (callee A t) (callee B t) f.in_list f'.in_list (f.an_entry ∙ sym f'.an_entry))

  pub reached_agree : (a : ℕ) → Reached p a → Agree A B a
  reached_agree a at_start =
      subst (Agree A B) m.base.entry_zero
      (entries_agree 0 0 m.base.some_routine m'.base.some_routine (m.base.entry_zero ∙ sym m'.base.entry_zero))
  reached_agree a (by_successor b d v x h i) =
      let g = reached_agree b h in
      among_leads (Agree A B) x (successors (class_in p b) b d v)
      (all_follow (class_in p b) b d v g (m.base.rules b g.in_one).fits (m'.base.rules b g.in_other).fits) i
  reached_agree a (by_call b t h e) = calls_agree b t (reached_agree b h) e
