-- Rules under a table that settles more admit whatever rules under one that settles less admit: only the mark that may stand behind an
-- instruction hangs on the table, and a mark that may stand is never against a rule.
-- Assumes nothing.
use Prim.Native.Nat.{ℕ, ◌≤◌, ◌<◌}
use native.Mathlib.Omega.{arith}
use mathlib.Core.Path.{◌≡◌, refl, sym, ◌∙◌}
use mathlib.Core.Bool.{Bool, true, false, not, ◌||◌, beq}
use lib.Dec.{eqb, leb, ltb}
use lib.ListN.{get_or-eq_default}
use borrow.Author.Tests.{ne_eqb, ltb-true, ltb-false, lt-leb, not-false}
use Rattle.slices.proofs.Bools.{by_test, neither, and_off, or_off}
use Rattle.slices.proofs.Below.{at}
use Rattle.slices.proofs.Checks.{none_broken, all_hold}
use Rattle.slices.specs.Checks.{NoneBroken}
use Rattle.alu.specs.Alu.{functions, sum_of, difference_of, alu_of, settles_of}
use Rattle.isa.specs.Facts.{effect_by, class_by}
use Rattle.isa.specs.declared.Class.{Class}
use Rattle.isa.specs.declared.Class.TheVariants.{Next}
use Rattle.isa.specs.declared.Instr.{Instr}
use Rattle.isa.specs.declared.Instr.TheVariants.{Alu, AddImm, AluNone, CmpImm, MaskImm, MaskIn, MovImm, MovIn, Ack, StoreAddr, StoreReg, Push, LoadAddr, LoadReg, Pop, Swap, Jmp, JmpReg, Call, Ret, Jz, Jnz, Jc, Jnc, Jv, Jnv, Jlz, Jp, Jgz, Jleu, Jlt, Jle, LcdCmd, LcdImm, LcdReg, LcdMem, OutReg, OutMem, Hlt, Nop}
use Rattle.isa.specs.declared.OverflowEffect.{OverflowEffect}
use Rattle.model.specs.State.{next_address}
use Rattle.model.specs.Step.{instr_at}
use Rattle.rules.specs.Former.{formerly_settles, SettlesMore, AdmitsMore, Remains}
use Rattle.rules.specs.Grounds.{each, bad_successor, rules_at, address_checks_by, checks_by, admit_by, admit_of}
use Rattle.rules.specs.Sheet.{Listing, described, marked, routine, depth}
use Rattle.rules.specs.Successors.{successor, mark_after}
use Rattle.rules.proofs.AdmittedRules.{blanks, names, entry_words, numbered_checks_by}
use Rattle.rules.proofs.CheckLists.{none_append, none_each, append_none, each_none}
use Rattle.rules.proofs.Tests.{absurd_bool, and_false}

-- ---- classes that allow more

-- a mark may stand behind e' wherever it may behind e
abbrev MarksMore : OverflowEffect → OverflowEffect → Type 0
MarksMore e e' = (v : Bool) → mark_after e v ≡ true → mark_after e' v ≡ true

data AllowsMore : Class → Class → Type 0 where
  alike : {k : Class} → AllowsMore k k
  marks : {e e' : OverflowEffect} → MarksMore e e' → AllowsMore (Next e) (Next e')

module _ (less more : ℕ → Bool) (settles : SettlesMore less more) where
  effect_more : (f : ℕ) → MarksMore (effect_by less f) (effect_by more f)
  effect_more f v m = by_test (less f) (λ q. rw (settles f q)) (λ q. absurd_bool (sym (rw q at m)))

  function_more : (f : ℕ) → AllowsMore (Next (effect_by less f)) (Next (effect_by more f))
  function_more f = marks (effect_more f)

  -- the function decides; every other class is the same by both tables
  class_more : (i : Instr) → AllowsMore (class_by less i) (class_by more i)
  class_more (Alu d a f b) = function_more f
  class_more (AddImm d a i) = function_more 0b0001
  class_more (AluNone a f b) = function_more f
  class_more (CmpImm a i) = function_more 0b0010
  class_more (MaskImm a i) = function_more 0b0101
  class_more (MaskIn i) = function_more 0b0101
  class_more (MovImm d i) = alike
  class_more (MovIn d) = alike
  class_more Ack = alike
  class_more (StoreAddr a i) = alike
  class_more (StoreReg a b) = alike
  class_more (Push a) = alike
  class_more (LoadAddr d i) = alike
  class_more (LoadReg d a) = alike
  class_more (Pop d) = alike
  class_more (Swap d a) = alike
  class_more (Jmp i) = alike
  class_more (JmpReg a) = alike
  class_more (Call i) = alike
  class_more Ret = alike
  class_more (Jz i) = alike
  class_more (Jnz i) = alike
  class_more (Jc i) = alike
  class_more (Jnc i) = alike
  class_more (Jv i) = alike
  class_more (Jnv i) = alike
  class_more (Jlz i) = alike
  class_more (Jp i) = alike
  class_more (Jgz i) = alike
  class_more (Jleu i) = alike
  class_more (Jlt i) = alike
  class_more (Jle i) = alike
  class_more (LcdCmd i) = alike
  class_more (LcdImm i) = alike
  class_more (LcdReg a) = alike
  class_more (LcdMem i) = alike
  class_more (OutReg a) = alike
  class_more (OutMem i) = alike
  class_more Hlt = alike
  class_more Nop = alike

-- ---- the rules

module _ (L : Listing) where
  successor_holds : (r t d : ℕ) (v v' : Bool) → (v ≡ true → v' ≡ true) → bad_successor L r (successor t d v) ≡ false → bad_successor L r (successor t d v') ≡ false
  successor_holds r t d v v' h e =
      let f = neither (not (described L t)) _ e in
      let g = neither (not (eqb (routine L t) r)) _ f.1 in
      let k = neither (not (eqb (depth L t) d)) _ g.1 in
      or_off _ _ f.0 (or_off _ _ g.0 (or_off _ _ k.0
      (and_off (marked L t) (not v') (λ m. rw (h (not-false v (and_false (marked L t) (not v) k.1 m)))))))

  rules_hold : (a r d : ℕ) (v : Bool) {k k' : Class} → AllowsMore k k' → NoneBroken (rules_at L a k r d v) → NoneBroken (rules_at L a k' r d v)
  rules_hold a r d v alike n = n
  rules_hold a r d v (marks {e} {e'} h) (g8, (g9, (g10, (g11, (g12, (g13, (g14, (g15, (g16, n))))))))) =
      let s = neither (bad_successor L r (successor (next_address a) d (mark_after e v))) false g16 in
      (g8, (g9, (g10, (g11, (g12, (g13, (g14, (g15, (or_off _ false (successor_holds r (next_address a) d (mark_after e v) (mark_after e' v) (h v) s.0) refl, n)))))))))

  module _ (less more : ℕ → Bool) (settles : SettlesMore less more) where
    address_holds : (a : ℕ) → NoneBroken (address_checks_by less L a) → NoneBroken (address_checks_by more L a)
    unfolding address_checks_by
    address_holds a n =
        by_test (described L a)
        (λ q. rw (q, address_checks_by) (rules_hold a (routine L a) (depth L a) (marked L a) (class_more less more settles (instr_at L.program a)) (rw (q, address_checks_by) at n)))
        (λ q. rw (q, address_checks_by) tt)

    all_addresses : NoneBroken (each (address_checks_by less L) 0 256) → NoneBroken (each (address_checks_by more L) 0 256)
    all_addresses n = each_none (address_checks_by more L) 256 0 (λ k l h. address_holds k (none_each (address_checks_by less L) 256 0 n k l h))

    all_checks : NoneBroken (checks_by less L) → NoneBroken (checks_by more L)
    unfolding checks_by
    all_checks (n1, (n2, (n3, n))) =
        let n4 = none_append (blanks L) _ n in
        let n5 = none_append (names L) _ n4.1 in
        let n7 = none_append (entry_words L) _ n5.1.1 in
        (n1, (n2, (n3, append_none (blanks L) _ n4.0 (append_none (names L) _ n5.0 (n5.1.0, append_none (entry_words L) _ n7.0 (all_addresses n7.1))))))

  pub admits_more : AdmitsMore L
  unfolding admit_by
  admits_more less more settles e =
      all_hold (checks_by more L) (all_checks less more settles (none_broken (checks_by less L) (numbered_checks_by L less) e))

-- ---- the former table

mov_unsettled : formerly_settles 0b0000 ≡ false
mov_unsettled = refl

-- the functions of four bits, by one computed test; a number past them is taken as the last function
abbrev alike_at : ℕ → Bool
alike_at f = eqb f 0b0000 || beq (formerly_settles f) (settles_of f)

alike_below : (f : ℕ) → f < 16 → alike_at f ≡ true
unfolding settles_of alu_of sum_of difference_of
alike_below = at alike_at 16 refl

unsettled_past : (f : ℕ) → 16 ≤ f → settles_of f ≡ false
unfolding settles_of alu_of
unsettled_past f h = rw (get_or-eq_default (functions 0 0 false) _ {n = f} h)

same_bool : (a b : Bool) → beq a b ≡ true → a ≡ b
same_bool true true e = refl
same_bool false false e = refl
same_bool true false e = absurd_bool (sym e)
same_bool false true e = absurd_bool (sym e)

others_alike : (f : ℕ) → (f ≡ 0b0000 → ⊥) → formerly_settles f ≡ settles_of f
others_alike f h =
    by_test (ltb f 16)
    (λ q. same_bool _ _ (rw (ne_eqb f 0b0000 h) at (alike_below f (ltb-true f 16 q))))
    (λ q.
    let l = ltb-false f 16 q in
    and_off (leb 0b0001 f) (leb f 0b0100) (λ r. lt-leb f 0b0100 (omega arith)) ∙ sym (unsettled_past f l))

formerly_less : SettlesMore formerly_settles settles_of
formerly_less f e = sym (others_alike f (λ z. absurd_bool (sym (rw z at e)))) ∙ e

pub remains : (L : Listing) (answer : ℕ) → answer ≡ admit_of L → Remains L answer
remains L answer e =
    record {
      mov_unsettled = mov_unsettled;
      others_alike = others_alike;
      admitted = λ z. e ∙ admits_more L formerly_settles settles_of formerly_less z;
      admits_more = admits_more L;
    }
