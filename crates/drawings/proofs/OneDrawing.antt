-- There is one drawing at most. Two drawings of the same banks are both admitted, so each bounds the other: they list the same entries with the
-- same needs, both in ascending order, and so at the same numbers; their sheets agree at reached addresses, and are 0 elsewhere.
-- Assumes nothing.
use Prim.Native.Nat.{ℕ, ◌+◌, ◌*◌, ◌/◌, ◌%◌, ◌<◌}
use native.Mathlib.Omega.{arith}
use mathlib.Core.Path.{◌≡◌, refl, sym, ap, ◌∙◌}
use mathlib.Core.List.{List}
use mathlib.Core.Bool.{Bool, true, false}
use lib.ListN.{length, get_or}
use lib.Seq.{ext_get_or}
use lib.Dec.{eqb}
use borrow.Author.Tests.{eqb-true, eqb-false}
use Rattle.slices.specs.Lists.{Bytes}
use Rattle.slices.proofs.Bools.{by_test, neither}
use Rattle.model.specs.Step.{Program}
use Rattle.rules.specs.Sheet.{Listing, word, described, marked, routine, depth, routines, entry, need}
use Rattle.rules.proofs.Tests.{absurd_bool}
use Rattle.drawings.specs.Drawn.{listed, Drawn, Lent, Outcome, Draws, bad_size, none_admitted, draws}
use Rattle.drawings.specs.Reached.{Reached}
use Rattle.drawings.proofs.Keeping.{Kept, kept}
use Rattle.drawings.proofs.AgreeingSheets.{Agree, reached_agree}
use Rattle.drawings.proofs.Ascending.{Within, ascending_one, no_more, no_larger}

-- ---- lists of pairs of bytes

even_or_odd : (i : ℕ) (P : ℕ → Type 0) → P (2 * (i / 2)) → P (2 * (i / 2) + 1) → P i
even_or_odd i P h k =
    by_test (eqb (i % 2) 0)
    (λ t. let z = eqb-true (i % 2) 0 t in let e : 2 * (i / 2) ≡ i = omega arith in rw e at h)
    (λ t. let z = eqb-false (i % 2) 0 t in let e : 2 * (i / 2) + 1 ≡ i = omega arith in rw e at k)

-- two lists of n pairs that have the same pairs
by_pairs :
    (n : ℕ) (l l' : List ℕ) → length l ≡ 2 * n → length l' ≡ 2 * n
    → ((r : ℕ) → r < n → (get_or l (2 * r) 0 ≡ get_or l' (2 * r) 0) × (get_or l (2 * r + 1) 0 ≡ get_or l' (2 * r + 1) 0)) → l ≡ l'
by_pairs n l l' e e' h =
    ext_get_or 0 l l' (e ∙ sym e')
    (λ i b.
    let p = h (i / 2) (omega arith) in
    even_or_odd i (λ (j : ℕ). get_or l j 0 ≡ get_or l' j 0) p.0 p.1)

-- ---- the parts of a word

bit_same : (x y : ℕ) → eqb (x % 2) 1 ≡ eqb (y % 2) 1 → x % 2 ≡ y % 2
bit_same x y e =
    by_test (eqb (x % 2) 1) (λ t. eqb-true (x % 2) 1 t ∙ sym (eqb-true (y % 2) 1 (sym e ∙ t)))
    (λ t.
    let a = eqb-false (x % 2) 1 t in
    let b = eqb-false (y % 2) 1 (sym e ∙ t) in
    omega arith)

-- a word of 16 bits, put together from its parts
word_parts : (w : ℕ) → w < 65536 → w ≡ w % 256 + 256 * (w / 256 % 64) + 16384 * (w / 16384 % 2) + 32768 * (w / 32768 % 2)
word_parts w h = omega arith

-- a word's two bytes are determined
low_same : (x y x' y' : ℕ) → x < 256 → x' < 256 → x + 256 * y ≡ x' + 256 * y' → x ≡ x'
low_same x y x' y' h h' e = omega arith

high_same : (x y x' y' : ℕ) → x < 256 → x' < 256 → x + 256 * y ≡ x' + 256 * y' → y ≡ y'
high_same x y x' y' h h' e = omega arith

both_ways : (a b : Bool) → (a ≡ true → b ≡ true) → (b ≡ true → a ≡ true) → a ≡ b
both_ways true b f g = sym (f refl)
both_ways false true f g = g refl
both_ways false false f g = refl

module _ (L : Listing) where
  word_low : Bytes L.sheet → (a : ℕ) → word L a < 65536
  unfolding word
  word_low h a = let x = h (2 * a) in let y = h (2 * a + 1) in omega arith

  -- the list's length is not odd (3)
  pairs_of : Kept L → length L.list ≡ 2 * routines L
  unfolding routines
  pairs_of m =
      let even : length L.list % 2 ≡ 1 → ⊥ = eqb-false _ _ (neither (eqb (length L.list % 2) 1) _ m.list_good).0 in
      omega arith

module _ (L M : Listing) where
  same_word :
      (a : ℕ) → word L a < 65536 → word M a < 65536 → described L a ≡ described M a → marked L a ≡ marked M a → routine L a ≡ routine M a
      → depth L a ≡ depth M a → word L a ≡ word M a
  unfolding described marked routine depth
  same_word a h k d v r n =
      let d' = bit_same (word L a / 32768) (word M a / 32768) d in
      let v' = bit_same (word L a / 16384) (word M a / 16384) v in
      word_parts (word L a) h ∙ rw (n, r, v', d') (sym (word_parts (word M a) k))

  same_sheet :
      Bytes L.sheet → Bytes M.sheet → length L.sheet ≡ 512 → length M.sheet ≡ 512
      → ((a : ℕ) → word L a ≡ word M a) → L.sheet ≡ M.sheet
  unfolding word
  same_sheet b b' h h' w =
      by_pairs 256 L.sheet M.sheet h h'
      (λ a i. (low_same _ _ _ _ (b (2 * a)) (b' (2 * a)) (w a), high_same _ _ _ _ (b (2 * a)) (b' (2 * a)) (w a)))

  same_list :
      Kept L → Kept M → routines L ≡ routines M → ((r : ℕ) → r < routines L → (entry L r ≡ entry M r) × (need L r ≡ need M r))
      → L.list ≡ M.list
  unfolding entry need
  same_list m m' n h = by_pairs (routines L) L.list M.list (pairs_of L m) (pairs_of M m' ∙ ap (λ (k : ℕ). 2 * k) (sym n)) h

-- ---- two drawings: both are admitted, so each bounds the other

entries_within :
    (p : Program) (s l s' l' : List ℕ) → Drawn p s l → Drawn p s' l'
    → Within (routines (listed p s l)) (routines (listed p s' l')) (entry (listed p s l)) (entry (listed p s' l'))
entries_within p s l s' l' D E =
    record {
      ascends = D.by_entry;
      ascends' = E.by_entry;
      found = λ r h. let x = D.least s' l' E.admitted r h in record { number = x.number; in_list = x.in_list; is = x.entry_is };
    }

module _ (p : Program) (s l s' l' : List ℕ) (D : Drawn p s l) (E : Drawn p s' l') where
  abbrev A : Listing
  A = listed p s l

  abbrev B : Listing
  B = listed p s' l'

  one_within : Within (routines A) (routines B) (entry A) (entry B)
  one_within = entries_within p s l s' l' D E

  other_within : Within (routines B) (routines A) (entry B) (entry A)
  other_within = entries_within p s' l' s l E D

  same_count : routines A ≡ routines B
  same_count = let h = no_more one_within in let k = no_more other_within in omega arith

  in_other : (r : ℕ) → r < routines A → r < routines B
  in_other r h = let n = same_count in omega arith

  same_entry : (r : ℕ) → r < routines A → entry A r ≡ entry B r
  same_entry r h =
      let a = no_larger one_within r h in
      let b = no_larger other_within r (in_other r h) in
      omega arith

  same_need : (r : ℕ) → r < routines A → need A r ≡ need B r
  same_need r h =
      let e = same_entry r h in
      let k = in_other r h in
      let a = (D.least s' l' E.admitted r h).at_least r k (sym e) in
      let b = (E.least s l D.admitted r k).at_least r h e in
      omega arith

  -- ---- the sheets

  one_kept : Kept A
  one_kept = kept A D.admitted.accepted

  other_kept : Kept B
  other_kept = kept B E.admitted.accepted

  -- one entry has one number, since both lists have it at the same place
  same_routine : (a : ℕ) → Agree A B a → routine A a ≡ routine B a
  same_routine a g =
      let r = one_kept.named a g.in_one in
      let q = other_kept.named a g.in_other in
      ascending_one (routines B) (entry B) E.by_entry (routine A a) (routine B a) (in_other (routine A a) r) q
      (sym (same_entry (routine A a) r) ∙ g.same_entry)

  reached_word : (a : ℕ) → Reached p a → word A a ≡ word B a
  reached_word a h =
      let g = reached_agree p s l s' l' one_kept other_kept a h in
      same_word A B a (word_low A D.admitted.sheet_bytes a) (word_low B E.admitted.sheet_bytes a) (g.in_one ∙ sym g.in_other)
      (both_ways (marked A a) (marked B a) (E.marks s l D.admitted a h) (D.marks s' l' E.admitted a h))
      (same_routine a g) g.same_depth

  -- whether an address is reached is told by whether it is described
  each_word : (a : ℕ) → word A a ≡ word B a
  each_word a =
      by_test (described A a) (λ q. reached_word a (D.only_reached a q))
      (λ q.
      let h : Reached p a → ⊥ = λ r. absurd_bool (sym (D.all_reached a r) ∙ q) in
      D.others_blank a h ∙ sym (E.others_blank a h))

  sheets_same : s ≡ s'
  sheets_same =
      same_sheet A B D.admitted.sheet_bytes E.admitted.sheet_bytes one_kept.base.sheet_long other_kept.base.sheet_long each_word

  lists_same : l ≡ l'
  lists_same = same_list A B one_kept other_kept same_count (λ r h. (same_entry r h, same_need r h))

pub drawn_one : (p : Program) (s l s' l' : List ℕ) → Drawn p s l → Drawn p s' l' → (s ≡ s') × (l ≡ l')
drawn_one p s l s' l' D E = (sheets_same p s l s' l' D E, lists_same p s l s' l' D E)

-- ---- an outcome

pub draws_one : (c : Lent) (o o' : Outcome) → Draws c o → Draws c o' → o' ≡ o
draws_one c o o' (bad_size n) (bad_size n') = refl
draws_one c o o' (bad_size n) (none_admitted z h) = absurd (n z)
draws_one c o o' (bad_size n) (draws z s l D) = absurd (n z)
draws_one c o o' (none_admitted z h) (bad_size n) = absurd (n z)
draws_one c o o' (none_admitted z h) (none_admitted z' h') = refl
draws_one c o o' (none_admitted z h) (draws z' s l D) = absurd (h s l D.admitted)
draws_one c o o' (draws z s l D) (bad_size n) = absurd (n z)
draws_one c o o' (draws z s l D) (none_admitted z' h) = absurd (h s l D.admitted)
draws_one c o o' (draws z s l D) (draws z' s' l' E) =
    let e = drawn_one c.program s l s' l' D E in rw (e.0, e.1)
