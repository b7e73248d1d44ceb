-- The invariant of a machine whose listing is admitted, and that a step keeps it, by the class of the instruction. A running machine stands at a
-- described address; its row of entries has the frames that the sheet says for that address and the stack bank holds it; SP is 255 less its
-- length; V is settled where the sheet marks it.
-- Assumes nothing.
use Prim.Native.Nat.{ℕ, suc, ◌+◌, ◌*◌, ◌-◌, ◌≤◌, ◌<◌}
use native.Mathlib.Numerals.{add-one}
use native.Mathlib.Omega.{arith}
use mathlib.Core.Path.{◌≡◌, refl, sym, ap, ◌∙◌, subst}
use mathlib.Core.Logic.{⊎_elim}
use mathlib.Core.List.{List, ◌∷◌}
use mathlib.Core.Bool.{Bool, true}
use lib.ListN.{length, set, length-set}
use Rattle.slices.specs.Lists.{Bytes}
use Rattle.alu.specs.Alu.{is_settled}
use Rattle.alu.specs.declared.Overflow.{Overflow}
use Rattle.isa.specs.declared.Class.{Class}
use Rattle.isa.specs.declared.Class.TheVariants.{Next, Jump, Branch, JumpReg, Call, Return, Push, Pop, Swap, Halt}
use Rattle.isa.specs.declared.OverflowEffect.{OverflowEffect}
use Rattle.isa.specs.declared.OverflowEffect.TheVariants.{Keeps, Settles, Unsettles}
use Rattle.model.specs.State.{next_address, sp_after_push, sp_after_pop, register}
use Rattle.model.specs.Step.{Setting, Machine, instr_at, top_of, applied_of, step_of}
use Rattle.slices.proofs.Bools.{by_test}
use Rattle.rules.specs.Demand.{last_byte, LastReturnTo, last_return_to, LastFits, SpMoves, StepHolds}
use Rattle.rules.specs.Grounds.{callee}
use Rattle.rules.specs.Sheet.{Listing, described, marked, routine, depth, need, entry, class_at}
use Rattle.rules.specs.Successors.{Successor, mark_after}
use Rattle.rules.specs.Tally.{Entry, byte, return_to, tally_of, tally, stores_of}
use Rattle.rules.proofs.AdmittedRules.{Admitted, Rules, EntryFits, Fits}
use Rattle.rules.proofs.ClassActs.{VActs, Acts, stored, acts, stores}
use Rattle.rules.proofs.Frames.{Frames, pushed, called, frames_bound, byte_of, Held, held_push, held_last, LastOwn, last_own, LastReturn, last_return, own_last, return_last}
use Rattle.rules.proofs.Tests.{absurd_bool}

-- V after a step whose effect on it is e, where it may be marked
v_after : (e : OverflowEffect) (v v' : Overflow) (mark : Bool) → VActs e v v' → (mark ≡ true → is_settled v ≡ true) → mark_after e mark ≡ true → is_settled v' ≡ true
v_after Keeps v v' mark a h q = rw a (h q)
v_after Settles v v' mark a h q = a
v_after Unsettles v v' mark a h q = absurd_bool (sym q)

-- what a run of a listing reads, with its keys
abbrev pub setting_of : Listing → List ℕ → Setting
setting_of L keys = record { program = L.program; keys = keys }

module _ (L : Listing) where
  -- a machine that has not halted, with the tally's row of entries
  pub record Running (row : List Entry) (m : Machine) : Type 0 where
    pub at_described : described L m.core.state.pc ≡ true
    pub frames : Frames L (routine L m.core.state.pc) (depth L m.core.state.pc) row
    pub held : Held m.stack row
    pub sp_is : m.core.state.sp + length row ≡ 255
    pub v_settled : marked L m.core.state.pc ≡ true → is_settled m.core.state.flags.v ≡ true
    pub stack_long : length m.stack ≡ 256

  pub data Safe (row : List Entry) (m : Machine) : Type 0 where
    running : Running row m → Safe row m
    done : m.core.state.halted ≡ true → length m.stack ≡ 256 → Safe row m

  -- what a step of the class k leaves
  pub record After (k : Class) (row : List Entry) (m m' : Machine) : Type 0 where
    pub last_fits : LastFits k (routine L m.core.state.pc) (top_of m) m'.core.state.pc row
    pub within_need : length (tally_of k m.core.state (routine L m.core.state.pc) row) ≤ need L 0
    pub sp_is : m'.core.state.sp + length (tally_of k m.core.state (routine L m.core.state.pc) row) ≡ 255
    pub sp_moves : SpMoves k m.core.state.sp m'.core.state.sp
    pub safe : Safe (tally_of k m.core.state (routine L m.core.state.pc) row) m'

  module _ (A : Admitted L) (bytes : Bytes L.list) where
    running_within : {row : List Entry} {m : Machine} → Running row m → length row ≤ need L 0
    running_within l = omega (arith, frames_bound L l.frames, (A.rules _ l.at_described).depth_there)

    -- a step that lands at a successor
    lands : {row : List Entry} {m : Machine} (a : ℕ) (x : Successor) → Fits L a x → m.core.state.pc ≡ x.to → Frames L (routine L a) x.depth_there row → Held m.stack row
        → m.core.state.sp + length row ≡ 255 → (x.mark ≡ true → is_settled m.core.state.flags.v ≡ true) → length m.stack ≡ 256 → Running row m
    lands {row} {m} a x f p fr h s v l =
        record {
          at_described = rw p f.is_described;
          frames = rw p (rw (f.same_routine, f.same_depth) fr);
          held = h;
          sp_is = s;
          v_settled = λ q. v (f.may_mark (rw p at q));
          stack_long = l;
        }

    -- and one that lands at a routine's entry
    pub lands_entry : {row : List Entry} {m : Machine} (q : ℕ) → EntryFits L q → m.core.state.pc ≡ entry L q → Frames L q 0 row → Held m.stack row
        → m.core.state.sp + length row ≡ 255 → length m.stack ≡ 256 → Running row m
    lands_entry q f p fr h s l =
        record {
          at_described = rw p f.is_described;
          frames = rw p (rw (f.its_own, f.at_top) fr);
          held = h;
          sp_is = s;
          v_settled = λ e. absurd_bool (sym (rw p at e) ∙ f.unmarked);
          stack_long = l;
        }

    need_below : (r : ℕ) → need L r < 256
    unfolding need
    need_below r = bytes (2 * r + 1)

    -- one entry more, where the entries stay within routine 0's need
    module _ (st : List ℕ) (sp : ℕ) (e : Entry) (row : List Entry) (h : Held st row) (s : sp + length row ≡ 255) (n : suc (length row) ≤ need L 0) where
      down_is : sp_after_push sp + suc (length row) ≡ 255
      down_is = omega (arith, need_below 0)

      adds : length st ≡ 256 → Held (set st (sp_after_push sp) (byte_of e)) (e ∷ row)
      adds l = held_push st (sp_after_push sp) e row l down_is h

    up_is : (x n : ℕ) → x + suc n ≡ 255 → sp_after_pop x + n ≡ 255
    up_is x n e = omega arith

    -- SP goes up by one as a plain number where there is an entry, and down where one may be added
    goes_up : (x x' n : ℕ) → x + suc n ≡ 255 → x' ≡ sp_after_pop x → x' ≡ x + 1
    goes_up x x' n e q = omega arith

    goes_down : (x x' n : ℕ) → x + n ≡ 255 → sp_after_push x + suc n ≡ 255 → x' ≡ sp_after_push x → x' + 1 ≡ x
    goes_down x x' n e d q = omega arith

    stays : {k : Class} {row : List Entry} {m m' : Machine}
        → LastFits k (routine L m.core.state.pc) (top_of m) m'.core.state.pc row
        → SpMoves k m.core.state.sp m'.core.state.sp → Running (tally_of k m.core.state (routine L m.core.state.pc) row) m' → After k row m m'
    stays f p l = record { last_fits = f; within_need = running_within l; sp_is = l.sp_is; sp_moves = p; safe = running l }

    returns : {row : List Entry} (m m' : Machine) → Running row m → LastReturn L row → Acts Return (top_of m) m.core.state m'.core.state → m'.stack ≡ m.stack → After Return row m m'
    unfolding tally_of
    returns m m' l (last_return {row = row} b e k f) a st =
        let t : m'.core.state.pc ≡ b = a.0.pc_is ∙ held_last m.stack m.core.state.sp (return_to b) row l.sp_is l.held in
        stays (subst (λ (x : ℕ). LastReturnTo x (return_to b ∷ row)) (sym t) last_return_to) (goes_up _ _ (length row) l.sp_is a.0.sp_is)
        (record {
          at_described = rw t e;
          frames = rw t f;
          held = rw st l.held.1;
          sp_is = rw a.0.sp_is (up_is m.core.state.sp (length row) l.sp_is);
          v_settled = λ q. absurd_bool (sym (rw t at q) ∙ k);
          stack_long = rw st l.stack_long;
        })

    pops : (m m' : Machine) {row : List Entry} → Running row m → Rules L m.core.state.pc Pop → LastOwn L (routine L m.core.state.pc) (depth L m.core.state.pc - 1) row
        → Acts Pop (top_of m) m.core.state m'.core.state → m'.stack ≡ m.stack → After Pop row m m'
    unfolding tally_of
    pops m m' l r (last_own {row = row} b f) a st =
        let t : top_of m ≡ b = held_last m.stack m.core.state.sp (byte b (routine L m.core.state.pc)) row l.sp_is l.held in
        stays (rw t last_byte) (goes_up _ _ (length row) l.sp_is a.0.sp_is)
        (lands m.core.state.pc _ r.fits.0 a.0.pc_is f (rw st l.held.1) (rw a.0.sp_is (up_is m.core.state.sp (length row) l.sp_is))
        (v_after Keeps m.core.state.flags.v m'.core.state.flags.v (marked L m.core.state.pc) a.1 l.v_settled) (rw st l.stack_long))

    swapped : (m m' : Machine) (q : ℕ) {row : List Entry} → Running row m → Rules L m.core.state.pc (Swap q) → LastOwn L (routine L m.core.state.pc) (depth L m.core.state.pc - 1) row
        → Acts (Swap q) (top_of m) m.core.state m'.core.state → m'.stack ≡ set m.stack m.core.state.sp (register m.core.state q) → After (Swap q) row m m'
    unfolding tally_of
    swapped m m' q l r (last_own {row = row} b f) a st =
        let t : top_of m ≡ b = held_last m.stack m.core.state.sp (byte b (routine L m.core.state.pc)) row l.sp_is l.held in
        stays (rw t last_byte) a.0.sp_is
        (lands m.core.state.pc _ r.fits.0 a.0.pc_is (subst (λ (n : ℕ). Frames L (routine L m.core.state.pc) n (byte (register m.core.state q) (routine L m.core.state.pc) ∷ row)) (omega (arith, r.own refl)) (pushed (register m.core.state q) f))
        (subst (λ (k : List ℕ). Held k (byte (register m.core.state q) (routine L m.core.state.pc) ∷ row)) (sym st) (held_push m.stack m.core.state.sp (byte (register m.core.state q) (routine L m.core.state.pc)) row l.stack_long l.sp_is l.held.1))
        (rw a.0.sp_is l.sp_is)
        (v_after Keeps m.core.state.flags.v m'.core.state.flags.v (marked L m.core.state.pc) a.1 l.v_settled) (rw (st, length-set) l.stack_long))

    class_safe : {row : List Entry} (m m' : Machine) (k : Class) → Running row m → Rules L m.core.state.pc k
        → Acts k (top_of m) m.core.state m'.core.state → m'.stack ≡ stored (stores_of k m.core.state) m.stack → After k row m m'
    unfolding tally_of stores_of
    class_safe m m' (Next e) l r a st =
        stays tt a.0.sp_is (lands m.core.state.pc _ r.fits.0 a.0.pc_is l.frames (rw st l.held) (omega arith)
        (v_after e m.core.state.flags.v m'.core.state.flags.v (marked L m.core.state.pc) a.1 l.v_settled) (rw st l.stack_long))
    class_safe m m' (Jump t) l r a st =
        stays tt a.0.sp_is (lands m.core.state.pc _ r.fits.0 a.0.pc_is l.frames (rw st l.held) (omega arith)
        (v_after Keeps m.core.state.flags.v m'.core.state.flags.v (marked L m.core.state.pc) a.1 l.v_settled) (rw st l.stack_long))
    class_safe m m' (Branch t n) l r a st =
        let v = v_after Keeps m.core.state.flags.v m'.core.state.flags.v (marked L m.core.state.pc) a.1 l.v_settled in
        stays tt (⊎_elim (λ mv. mv.sp_is) (λ mv. mv.sp_is) a.0)
        (⊎_elim
        (λ mv. lands m.core.state.pc _ r.fits.0 mv.pc_is l.frames (rw st l.held) (omega arith) v (rw st l.stack_long))
        (λ mv. lands m.core.state.pc _ r.fits.1.0 mv.pc_is l.frames (rw st l.held) (omega arith) v (rw st l.stack_long))
        a.0)
    class_safe m m' JumpReg l r a st = absurd_bool r.not_jump_reg
    class_safe {row} m m' (Call t) l r a st =
        let e = return_to (next_address m.core.state.pc) in
        let c = r.calls t refl in
        let f = r.fits.0 in
        let unmarked = by_test (marked L (next_address m.core.state.pc)) (λ q. absurd_bool (sym (f.may_mark q))) (λ q. q) in
        let caller : Frames L (routine L (next_address m.core.state.pc)) (depth L (next_address m.core.state.pc)) row = rw (f.same_depth, f.same_routine) l.frames in
        let fr : Frames L (callee L t) 0 (e ∷ row) =
        called (next_address m.core.state.pc) (callee L t) f.is_described unmarked (rw (f.same_depth, f.same_routine) c.has_room) caller in
        let n : suc (length row) ≤ need L 0 = omega (arith, frames_bound L fr) in
        stays tt (goes_down _ _ (length row) l.sp_is (down_is m.stack m.core.state.sp e row l.held l.sp_is n) a.0.sp_is)
        (lands_entry (callee L t) (A.entries (callee L t) c.in_list) (a.0.pc_is ∙ sym c.an_entry) fr
        (subst (λ (k : List ℕ). Held k (e ∷ row)) (sym st) (adds m.stack m.core.state.sp e row l.held l.sp_is n l.stack_long))
        (rw a.0.sp_is (down_is m.stack m.core.state.sp e row l.held l.sp_is n)) (rw (st, length-set) l.stack_long))
    class_safe {row} m m' Return l r a st =
        let o = r.returns refl in
        returns m m' l (return_last L l.frames o.0 o.1) a st
    class_safe {row} m m' (Push q) l r a st =
        let e = byte (register m.core.state q) (routine L m.core.state.pc) in
        let f = r.fits.0 in
        let fr : Frames L (routine L m.core.state.pc) (suc (depth L m.core.state.pc)) (e ∷ row) = pushed (register m.core.state q) l.frames in
        let n : suc (length row) ≤ need L 0 = omega (arith, frames_bound L fr, (A.rules _ f.is_described).depth_there, ap (need L) f.same_routine) in
        stays tt (goes_down _ _ (length row) l.sp_is (down_is m.stack m.core.state.sp e row l.held l.sp_is n) a.0.sp_is)
        (lands m.core.state.pc _ f a.0.pc_is (rw add-one fr)
        (subst (λ (k : List ℕ). Held k (e ∷ row)) (sym st) (adds m.stack m.core.state.sp e row l.held l.sp_is n l.stack_long))
        (rw a.0.sp_is (down_is m.stack m.core.state.sp e row l.held l.sp_is n))
        (v_after Keeps m.core.state.flags.v m'.core.state.flags.v (marked L m.core.state.pc) a.1 l.v_settled) (rw (st, length-set) l.stack_long))
    class_safe m m' Pop l r a st = pops m m' l r (own_last L l.frames (r.own refl)) a st
    class_safe m m' (Swap q) l r a st = swapped m m' q l r (own_last L l.frames (r.own refl)) a st
    class_safe m m' Halt l r a st =
        record { last_fits = tt; within_need = running_within l; sp_is = omega arith; sp_moves = a.1; safe = done a.0 (rw st l.stack_long) }

    -- a step of a running machine is as the demand says, and leaves a safe one
    pub step_safe : (keys : List ℕ) {row : List Entry} {m : Machine} → Running row m → StepHolds L row (setting_of L keys) m × Safe (tally L m row) (step_of (setting_of L keys) m)
    unfolding step_of applied_of
    step_safe keys {row} {m} l =
        let s = m.core.state in
        let i = instr_at L.program s.pc in
        let h = class_safe m (step_of (setting_of L keys) m) (class_at L s.pc) l (A.rules s.pc l.at_described) (acts s (top_of m) m.core.ram keys i) (stores s (top_of m) m.core.ram keys i m.stack) in (
          record {
            own_program = refl;
            at_described = l.at_described;
            last_fits = h.last_fits;
            within_need = h.within_need;
            sp_is = h.sp_is;
            sp_moves = h.sp_moves;
          },
          h.safe,
        )
