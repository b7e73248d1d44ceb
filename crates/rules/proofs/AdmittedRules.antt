-- What admission's answer 0 gives, rule by rule, in the form in which the safety argument uses it.
-- Assumes nothing.
use Prim.Native.Nat.{ℕ, zero, suc, ◌+◌, ◌*◌, ◌/◌, ◌%◌, ◌≤◌, ◌<◌}
use native.Mathlib.Nat.{pos_of_ne-zero, zero-add}
use native.Mathlib.Omega.{arith}
use lib.Arith.{le-zero}
use mathlib.Core.Path.{◌≡◌, sym, subst}
use mathlib.Core.List.{List, [], ◌∷◌, ◌++◌}
use mathlib.Core.Bool.{Bool, true, false, not, ◌||◌}
use lib.ListN.{length, get_or, get_or-eq_default}
use lib.Dec.{eqb, ltb}
use borrow.Author.Tests.{eqb-true, eqb-false, ltb-false, ltb-true, not-false}
use Rattle.alu.specs.Alu.{settles_of}
use Rattle.isa.specs.Facts.{class_by}
use Rattle.isa.specs.declared.Class.{Class}
use Rattle.isa.specs.declared.Class.TheVariants as class
use Rattle.model.specs.Run.{tests_in}
use Rattle.model.specs.Step.{instr_at}
use Rattle.slices.proofs.Bools.{by_test, neither}
use Rattle.slices.specs.Checks.{NoneBroken, Check, check}
use Rattle.rules.specs.Grounds.{each, find, callee, is_jump_reg, is_pop_or_swap, is_return, bad_blank, bad_routine, bad_start, bad_entry, bad_successor, any_bad, rules_at, address_checks_by, checks_by, admit_by, address_checks, checks, admit_of}
use Rattle.rules.specs.Sheet.{Listing, word, described, marked, routine, depth, routines, entry, need, class_at}
use Rattle.rules.specs.Successors.{Successor, successors}
use Rattle.rules.proofs.CheckLists.{numbered_append, numbered_each, none_append, none_each}
use Rattle.slices.proofs.Checks.{Numbered, none_broken}
use Rattle.rules.proofs.Tests.{absurd_bool, and_false}

-- ---- what is found passes the test

pub find_passes : (f : ℕ → Bool) (n i : ℕ) → find f i n < i + n → f (find f i n) ≡ true
unfolding find
find_passes f zero i h = absurd (omega arith)
find_passes f (suc n) i h =
    by_test (f i) (λ q. rw (q, find) q)
    (λ q. rw (q, find) (find_passes f n (suc i) (let h' : find f (suc i) n < i + suc n = rw (q, find) at h in omega arith)))

pub find_bound : (f : ℕ → Bool) (n i : ℕ) → find f i n ≤ i + n
unfolding find
find_bound f zero i = omega arith
find_bound f (suc n) i = by_test (f i) (λ q. rw (q, find) (omega arith)) (λ q. rw (q, find) (omega (arith, find_bound f n (suc i))))

some_routines : (n : ℕ) → (n % 2 ≡ 1 → ⊥) → (n ≡ 0 → ⊥) → 0 < n / 2
some_routines n h k = omega arith

module _ (L : Listing) where
  -- ---- every check has a number

  numbered_rules : (a : ℕ) (k : Class) (r d : ℕ) (v : Bool) → Numbered (rules_at L a k r d v)
  numbered_rules a k r d v =
      (omega arith, (omega arith, (omega arith, (omega arith, (omega arith, (omega arith, (omega arith, (omega arith, (omega arith, tt)))))))))

  numbered_address_by : (settles : ℕ → Bool) (a : ℕ) → Numbered (address_checks_by settles L a)
  unfolding address_checks_by
  numbered_address_by settles a =
      by_test (described L a) (λ q. rw (q, address_checks_by) (numbered_rules a (class_by settles (instr_at L.program a)) (routine L a) (depth L a) (marked L a))) (λ q. rw (q, address_checks_by) tt)

  pub numbered_address : (a : ℕ) → Numbered (address_checks L a)
  numbered_address = numbered_address_by settles_of

  pub one : (n : ℕ) (b : ℕ → Bool) → 0 < n → (k : ℕ) → Numbered (check n k (b k) ∷ [])
  one n b h k = (h, tt)

  abbrev pub blanks : List Check
  blanks = each (λ a. check 4 a (bad_blank L a) ∷ []) 0 256

  abbrev pub names : List Check
  names = each (λ a. check 5 a (bad_routine L a) ∷ []) 0 256

  abbrev pub entry_words : List Check
  entry_words = each (λ r. check 7 r (bad_entry L r) ∷ []) 0 (routines L)

  abbrev addresses : (ℕ → Bool) → List Check
  addresses settles = each (address_checks_by settles L) 0 256

  pub numbered_checks_by : (settles : ℕ → Bool) → Numbered (checks_by settles L)
  unfolding checks_by
  numbered_checks_by settles =
      let n7 : Numbered (entry_words ++ addresses settles) =
      numbered_append entry_words (addresses settles) (numbered_each _ (one 7 (bad_entry L) (omega arith)) 0 (routines L)) (numbered_each _ (numbered_address_by settles) 0 256) in
      let n6 : Numbered (check 6 0 (bad_start L) ∷ (entry_words ++ addresses settles)) = (omega arith, n7) in
      let n5 = numbered_append names _ (numbered_each _ (one 5 (bad_routine L) (omega arith)) 0 256) n6 in
      let n4 = numbered_append blanks _ (numbered_each _ (one 4 (bad_blank L) (omega arith)) 0 256) n5 in
      (omega arith, (omega arith, (omega arith, n4)))

  pub numbered_checks : Numbered (checks L)
  numbered_checks = numbered_checks_by settles_of

  -- ---- the rules

  -- what 16 gives of a successor
  pub record Fits (a : ℕ) (x : Successor) : Type 0 where
    pub is_described : described L x.to ≡ true
    pub same_routine : routine L x.to ≡ routine L a
    pub same_depth : depth L x.to ≡ x.depth_there
    pub may_mark : marked L x.to ≡ true → x.mark ≡ true

  abbrev pub FitsAll : ℕ → List Successor → Type 0
  FitsAll a [] = Unit {0}
  FitsAll a (x ∷ xs) = Fits a x × FitsAll a xs

  fits_one : (a : ℕ) (x : Successor) → bad_successor L (routine L a) x ≡ false → Fits a x
  fits_one a x e =
      let f = neither (not (described L x.to)) _ e in
      let g = neither (not (eqb (routine L x.to) (routine L a))) _ f.1 in
      let d = neither (not (eqb (depth L x.to) x.depth_there)) _ g.1 in
      record {
        is_described = not-false _ f.0;
        same_routine = eqb-true _ _ (not-false _ g.0);
        same_depth = eqb-true _ _ (not-false _ d.0);
        may_mark = λ q. not-false _ (and_false (marked L x.to) (not x.mark) d.1 q);
      }

  fits_all : (a : ℕ) (xs : List Successor) → any_bad L (routine L a) xs ≡ false → FitsAll a xs
  fits_all a [] e = tt
  fits_all a (x ∷ xs) e = let h = neither (bad_successor L (routine L a) x) (any_bad L (routine L a) xs) e in (fits_one a x h.0, fits_all a xs h.1)

  -- what 14 and 15 give of a call at a of the target t
  pub record CallFits (a t : ℕ) : Type 0 where
    pub in_list : callee L t < routines L
    pub an_entry : entry L (callee L t) ≡ t
    pub has_room : depth L a + 1 + need L (callee L t) ≤ need L (routine L a)

  callee_is : (t : ℕ) → eqb (callee L t) (routines L) ≡ false → (callee L t < routines L) × (entry L (callee L t) ≡ t)
  unfolding callee
  callee_is t e =
      let f : ℕ → Bool = λ r. eqb (entry L r) t in
      let ne = eqb-false (callee L t) (routines L) e in
      let b : find f 0 (routines L) ≤ 0 + routines L = find_bound f (routines L) 0 in
      let l : callee L t < routines L = omega arith in
      (l, eqb-true _ _ (find_passes f (routines L) 0 (subst (λ (n : ℕ). callee L t < n) (sym (zero-add (routines L))) l)))

  -- what 8 to 16 give of a described address of class k
  pub record Rules (a : ℕ) (k : Class) : Type 0 where
    pub depth_there : depth L a ≤ need L (routine L a)
    pub not_jump_reg : is_jump_reg k ≡ false
    pub v_marked : tests_in k ≡ true → marked L a ≡ true
    pub own : is_pop_or_swap k ≡ true → 0 < depth L a
    pub returns : is_return k ≡ true → (0 < routine L a) × (depth L a ≡ 0)
    pub calls : (t : ℕ) → k ≡ class.Call t → CallFits a t
    pub fits : FitsAll a (successors k a (depth L a) (marked L a))

  rules_of : (a : ℕ) (k : Class) → NoneBroken (rules_at L a k (routine L a) (depth L a) (marked L a)) → Rules a k
  rules_of a k (g8, (g9, (g10, (g11, (g12, (g13, (g14, (g15, (g16, n))))))))) =
      record {
        depth_there = ltb-false (need L (routine L a)) (depth L a) g8;
        not_jump_reg = g9;
        v_marked = λ q. not-false (marked L a) (and_false (tests_in k) (not (marked L a)) g10 q);
        own = λ q. pos_of_ne-zero (eqb-false (depth L a) 0 (and_false (is_pop_or_swap k) (eqb (depth L a) 0) g11 q));
        returns = λ q.
            let h = neither (eqb (routine L a) 0) (ltb 0 (depth L a)) (and_false (is_return k) (eqb (routine L a) 0 || ltb 0 (depth L a)) g12 q) in
            (pos_of_ne-zero (eqb-false (routine L a) 0 h.0), le-zero (ltb-false 0 (depth L a) h.1));
        calls = λ t q.
            let h = callee_is t (rw q at g14) in
            record {
              in_list = h.0;
              an_entry = h.1;
              has_room = ltb-false (need L (routine L a)) (depth L a + 1 + need L (callee L t)) (rw q at g15);
            };
        fits = fits_all a (successors k a (depth L a) (marked L a)) g16;
      }

  -- what 7 gives of a routine
  pub record EntryFits (r : ℕ) : Type 0 where
    pub is_described : described L (entry L r) ≡ true
    pub its_own : routine L (entry L r) ≡ r
    pub at_top : depth L (entry L r) ≡ 0
    pub unmarked : marked L (entry L r) ≡ false

  pub entry_of : (r : ℕ) → bad_entry L r ≡ false → EntryFits r
  unfolding bad_entry
  entry_of r e =
      let a = neither (not (described L (entry L r))) _ e in
      let b = neither (not (eqb (routine L (entry L r)) r)) _ a.1 in
      let d = neither (ltb 0 (depth L (entry L r))) (marked L (entry L r)) b.1 in
      record {
        is_described = not-false _ a.0;
        its_own = eqb-true _ _ (not-false _ b.0);
        at_top = le-zero (ltb-false 0 (depth L (entry L r)) d.0);
        unmarked = d.1;
      }

  pub record Admitted : Type 0 where
    pub sheet_long : length L.sheet ≡ 512
    pub some_routine : 0 < routines L
    pub entry_zero : entry L 0 ≡ 0
    pub entries : (r : ℕ) → r < routines L → EntryFits r
    pub rules : (a : ℕ) → described L a ≡ true → Rules a (class_at L a)

  -- a word past the sheet is 0, so a described address is below 256
  pub blank_past : length L.sheet ≡ 512 → (a : ℕ) → 256 ≤ a → word L a ≡ 0
  unfolding word
  blank_past h a far =
      let w : get_or L.sheet (2 * a) 0 ≡ 0 = get_or-eq_default L.sheet 0 {n = 2 * a} (omega arith) in
      let w' : get_or L.sheet (2 * a + 1) 0 ≡ 0 = get_or-eq_default L.sheet 0 {n = 2 * a + 1} (omega arith) in
      rw (w, w')

  pub described_below : length L.sheet ≡ 512 → (a : ℕ) → described L a ≡ true → a < 256
  unfolding described
  described_below h a e =
      by_test (ltb a 256) (ltb-true a 256) (λ q. absurd_bool (sym (rw (blank_past h a (ltb-false a 256 q)) at e)))

  pub admitted : admit_of L ≡ 0 → Admitted
  unfolding admit_by checks_by address_checks_by routines
  admitted e =
      let n = none_broken (checks L) numbered_checks e in
      let long : length L.sheet ≡ 512 = eqb-true _ _ (not-false _ n.1.0) in
      let l1 = neither (eqb (length L.list % 2) 1) _ n.1.1.0 in
      let l2 = neither (eqb (length L.list) 0) _ l1.1 in
      let n4 = none_append blanks _ n.1.1.1 in
      let n5 = none_append names _ n4.1 in
      let n7 = none_append entry_words (addresses settles_of) n5.1.1 in
      record {
        sheet_long = long;
        some_routine = some_routines (length L.list) (eqb-false _ _ l1.0) (eqb-false _ _ l2.0);
        entry_zero = eqb-true _ _ (not-false _ n5.1.0);
        entries = λ r h. entry_of r (none_each (λ r. check 7 r (bad_entry L r) ∷ []) (routines L) 0 n7.0 r (omega arith) (omega arith)).0;
        rules = λ a d.
            rules_of a (class_at L a)
            (rw (d, address_checks_by) at (none_each (address_checks L) 256 0 n7.1 a (omega arith) (omega (arith, described_below long a d))));
      }
