-- Admission's answer 0 and the rules, both ways: what base and drawing use of a listing, and what must be shown of one.
-- Assumes nothing.
use Prim.Native.Nat.{ℕ, ◌+◌, ◌<◌}
use native.Mathlib.Omega.{arith}
use mathlib.Core.Path.{◌≡◌, refl, sym, ap, ◌∙◌}
use mathlib.Core.Logic.{◌≢◌}
use mathlib.Core.List.{List, [], ◌∷◌}
use mathlib.Core.Bool.{Bool, true, false, not, ◌||◌}
use lib.Dec.{eqb, leb, ltb}
use borrow.Author.Tests.{eqb-true, leb-false, not-false, eq-eqb, ne_eqb, le-ltb, lt-leb}
use Rattle.isa.specs.declared.Class.{Class}
use Rattle.isa.specs.declared.Class.TheVariants as class
use Rattle.model.specs.Run.{tests_in}
use Rattle.slices.proofs.Bools.{by_test, and_off, or_off}
use Rattle.slices.proofs.Checks.{none_broken, all_hold}
use Rattle.slices.specs.Checks.{NoneBroken, check}
use Rattle.rules.specs.Grounds.{each, callee, is_pop_or_swap, is_return, of_call, bad_banks, bad_list, bad_blank, bad_routine, bad_start, bad_entry, bad_successor, any_bad, rules_at, address_checks_by, checks_by, admit_by, address_checks, checks, admit_of}
use Rattle.rules.specs.Sheet.{Listing, word, described, marked, routine, depth, routines, entry, need, class_at}
use Rattle.rules.specs.Successors.{Successor, successors, goes_on}
use Rattle.rules.proofs.AdmittedRules.{described_below, numbered_checks, Fits, FitsAll, Rules, EntryFits, Admitted, admitted}
use Rattle.rules.proofs.CheckLists.{none_append, none_each, append_none, each_none}
use Rattle.rules.proofs.Tests.{absurd_bool, and_false}

call_off : (f : ℕ → Bool) (k : Class) → ((t : ℕ) → k ≡ class.Call t → f t ≡ false) → of_call f k ≡ false
call_off f (class.Next e) h = refl
call_off f (class.Jump t) h = refl
call_off f (class.Branch t n) h = refl
call_off f class.JumpReg h = refl
call_off f (class.Call t) h = h t refl
call_off f class.Return h = refl
call_off f (class.Push r) h = refl
call_off f class.Pop h = refl
call_off f (class.Swap r) h = refl
call_off f class.Halt h = refl

module _ (L : Listing) where
  -- every rule holds: those of `Admitted`, and 1, 3, 4, 5 and 13
  pub record Kept : Type 0 where
    pub base : Admitted L
    pub banks_good : bad_banks L ≡ false
    pub list_good : bad_list L ≡ false
    pub blank : (a : ℕ) → a < 256 → described L a ≡ false → word L a ≡ 0
    pub named : (a : ℕ) → described L a ≡ true → routine L a < routines L
    pub going_on : (a : ℕ) → described L a ≡ true → goes_on (class_at L a) ≡ true → a ≢ 255

  -- a routine other than 0 has another entry
  pub other_entry : Kept → (r : ℕ) → r < routines L → 0 < r → entry L r ≢ 0
  other_entry m r h l e =
      let x : routine L 0 ≡ r = ap (routine L) (sym e) ∙ (m.base.entries r h).its_own in
      let y : routine L 0 ≡ 0 = ap (routine L) (sym m.base.entry_zero) ∙ (m.base.entries 0 m.base.some_routine).its_own in
      omega arith

  -- ---- from the answer to the rules

  blank_of : (a : ℕ) → bad_blank L a ≡ false → described L a ≡ false → word L a ≡ 0
  unfolding bad_blank
  blank_of a e q = eqb-true (word L a) 0 (not-false _ (and_false (not (described L a)) (not (eqb (word L a) 0)) e (rw q)))

  named_of : (a : ℕ) → bad_routine L a ≡ false → described L a ≡ true → routine L a < routines L
  unfolding bad_routine
  named_of a e q = leb-false (routines L) (routine L a) (and_false (described L a) (leb (routines L) (routine L a)) e q)

  goes_of : (a : ℕ) (k : Class) → NoneBroken (rules_at L a k (routine L a) (depth L a) (marked L a)) → goes_on k ≡ true → a ≢ 255
  goes_of a k n q e =
      absurd_bool (sym q ∙ and_false (eqb a 255) (goes_on k) n.1.1.1.1.1.0 (eq-eqb a 255 e))

  pub kept : admit_of L ≡ 0 → Kept
  unfolding admit_by checks_by address_checks_by
  kept e =
      let m = admitted L e in
      let n = none_broken (checks L) (numbered_checks L) e in
      let n4 = none_append (each (λ a. check 4 a (bad_blank L a) ∷ []) 0 256) _ n.1.1.1 in
      let n5 = none_append (each (λ a. check 5 a (bad_routine L a) ∷ []) 0 256) _ n4.1 in
      let n7 = none_append (each (λ r. check 7 r (bad_entry L r) ∷ []) 0 (routines L)) (each (address_checks L) 0 256) n5.1.1 in
      record {
        base = m;
        banks_good = n.0;
        list_good = n.1.1.0;
        blank = λ a h q. blank_of a (none_each (λ a. check 4 a (bad_blank L a) ∷ []) 256 0 n4.0 a (omega arith) (omega arith)).0 q;
        named = λ a d.
            let low = described_below L m.sheet_long a d in
            named_of a (none_each (λ a. check 5 a (bad_routine L a) ∷ []) 256 0 n5.0 a (omega arith) (omega arith)).0 d;
        going_on = λ a d.
            let low = described_below L m.sheet_long a d in
            goes_of a (class_at L a) (rw (d, address_checks_by) at (none_each (address_checks L) 256 0 n7.1 a (omega arith) (omega arith)));
      }

  -- ---- from the rules to the answer

  successor_off : (a : ℕ) (x : Successor) → Fits L a x → bad_successor L (routine L a) x ≡ false
  successor_off a x f =
      rw (f.is_described, eq-eqb _ _ f.same_routine, eq-eqb _ _ f.same_depth)
      (and_off (marked L x.to) (not x.mark) (λ v. rw (f.may_mark v)))

  successors_off : (a : ℕ) (xs : List Successor) → FitsAll L a xs → any_bad L (routine L a) xs ≡ false
  successors_off a [] f = refl
  successors_off a (x ∷ xs) f = or_off (bad_successor L (routine L a) x) (any_bad L (routine L a) xs) (successor_off a x f.0) (successors_off a xs f.1)

  rules_none : (a : ℕ) (k : Class) → Rules L a k → (goes_on k ≡ true → a ≢ 255) → NoneBroken (rules_at L a k (routine L a) (depth L a) (marked L a))
  rules_none a k r g = (
    le-ltb _ _ r.depth_there,
    (
      r.not_jump_reg,
      (
        and_off (tests_in k) (not (marked L a)) (λ q. rw (r.v_marked q)),
        (
          and_off (is_pop_or_swap k) (eqb (depth L a) 0) (λ q. ne_eqb (depth L a) 0 (let h = r.own q in λ e. omega arith)),
          (
            and_off (is_return k) (eqb (routine L a) 0 || ltb 0 (depth L a)) (λ q. let h = r.returns q in or_off (eqb (routine L a) 0) (ltb 0 (depth L a)) (ne_eqb (routine L a) 0 (let z = h.0 in λ e. omega arith)) (rw h.1)),
            (
              and_off (eqb a 255) (goes_on k) (λ q. by_test (goes_on k) (λ on. absurd (g on (eqb-true a 255 q))) (λ off. off)),
              (
                call_off (λ t. eqb (callee L t) (routines L)) k (λ t q. ne_eqb (callee L t) (routines L) (let h = (r.calls t q).in_list in λ e. omega arith)),
                (
                  call_off (λ t. ltb (need L (routine L a)) (depth L a + 1 + need L (callee L t))) k (λ t q. le-ltb _ _ (r.calls t q).has_room),
                  (successors_off a (successors k a (depth L a) (marked L a)) r.fits, tt),
                ),
              ),
            ),
          ),
        ),
      ),
    ),
  )

  address_none : Kept → (a : ℕ) → NoneBroken (address_checks L a)
  unfolding address_checks_by
  address_none m a =
      by_test (described L a) (λ q. rw (q, address_checks_by) (rules_none a (class_at L a) (m.base.rules a q) (m.going_on a q))) (λ q. rw (q, address_checks_by) tt)

  entry_off : (r : ℕ) → EntryFits L r → bad_entry L r ≡ false
  unfolding bad_entry
  entry_off r f = rw (f.is_described, eq-eqb _ _ f.its_own, f.at_top, f.unmarked)

  blank_off : Kept → (a : ℕ) → a < 256 → bad_blank L a ≡ false
  unfolding bad_blank
  blank_off m a h = by_test (described L a) (λ q. rw q) (λ q. rw (q, eq-eqb _ _ (m.blank a h q)))

  routine_off : Kept → (a : ℕ) → bad_routine L a ≡ false
  unfolding bad_routine
  routine_off m a = and_off (described L a) (leb (routines L) (routine L a)) (λ q. lt-leb _ _ (m.named a q))

  pub accepted : Kept → admit_of L ≡ 0
  unfolding admit_by checks_by
  accepted m =
      let start : bad_start L ≡ false = rw (eq-eqb _ _ m.base.entry_zero) in
      all_hold (checks L) (
        m.banks_good,
        (
          rw (eq-eqb _ _ m.base.sheet_long),
          (
            m.list_good,
            append_none (each (λ a. check 4 a (bad_blank L a) ∷ []) 0 256) _ (each_none _ 256 0 (λ k l h. (blank_off m k (omega arith), tt)))
                (append_none (each (λ a. check 5 a (bad_routine L a) ∷ []) 0 256) _ (each_none _ 256 0 (λ k l h. (routine_off m k, tt))) (
                  start,
                  append_none (each (λ r. check 7 r (bad_entry L r) ∷ []) 0 (routines L)) (each (address_checks L) 0 256)
                      (each_none _ (routines L) 0 (λ k l h. (entry_off k (m.base.entries k (omega arith)), tt)))
                      (each_none (address_checks L) 256 0 (λ k l h. address_none m k)),
                )),
          ),
        ),
      )
