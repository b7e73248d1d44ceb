-- The draft of any words: what is read back from its sheet and its list.
-- Assumes nothing.
use Prim.Native.Nat.{ℕ, zero, suc, ◌+◌, ◌*◌, ◌/◌, ◌%◌, ◌≤◌, ◌<◌, zero-le}
use native.Mathlib.Omega.{arith}
use mathlib.Core.Path.{◌≡◌, refl, sym, ap, ◌∙◌}
use mathlib.Core.Logic.{◌≢◌}
use mathlib.Core.List.{List, ◌∷◌}
use mathlib.Core.Bool.{true, false}
use lib.ListN.{length, get_or}
use lib.Dec.{eqb}
use borrow.Author.Tests.{eqb-true, eqb-false}
use Rattle.model.specs.Step.{Program}
use Rattle.slices.proofs.Bools.{by_test}
use Rattle.rules.specs.Sheet.{Listing, word, described, marked, routine, depth, routines, entry, need}
use Rattle.drawings.specs.internal.Cells.{bit, seen, need_in, depth_in, entry_in, mark_in}
use Rattle.drawings.specs.internal.Drafts.{is_entry, rank, list_from, low_byte, high_byte, sheet_from, draft_of}
use Rattle.drawings.proofs.Weights.{bit_two, bit_read, unseen_zero, depth_low}

module _ (ws : List ℕ) where
  -- ---- the entries below an address
  pub rank_step : (m : ℕ) → is_entry ws m ≡ true → rank ws (suc m) ≡ suc (rank ws m)
  unfolding rank
  rank_step m e = rw e

  pub rank_same : (m : ℕ) → is_entry ws m ≡ false → rank ws (suc m) ≡ rank ws m
  unfolding rank
  rank_same m e = rw e

  rank_grows : (m : ℕ) → rank ws m ≤ rank ws (suc m)
  rank_grows m = by_test (is_entry ws m) (λ e. let h = rank_step m e in omega arith) (λ e. let h = rank_same m e in omega arith)

  pub rank_mono : (i j : ℕ) → i ≤ j → rank ws i ≤ rank ws j
  rank_mono i zero h = let z : i ≡ 0 = omega arith in rw z (omega arith)
  rank_mono i (suc j) h =
      by_test (eqb i (suc j)) (λ e. rw (eqb-true i (suc j) e) (omega arith))
      (λ e. let ne : i ≢ suc j = eqb-false i (suc j) e in let r = rank_mono i j (omega arith) in let g = rank_grows j in omega arith)

  pub rank_more : (e j : ℕ) → is_entry ws e ≡ true → e < j → rank ws e < rank ws j
  rank_more e j h l = let s = rank_step e h in let r = rank_mono (suc e) j (omega arith) in omega arith

  -- the entry of a rank
  pub record Placed (m r : ℕ) : Type 0 where
    pub place : ℕ
    pub within : place < m
    pub an_entry : is_entry ws place ≡ true
    pub rank_is : rank ws place ≡ r

  pub rank_zero : rank ws 0 ≡ 0
  unfolding rank
  rank_zero = refl

  pub placed_at : (m r : ℕ) → r < rank ws m → Placed m r
  placed_at zero r h = let z = rank_zero in absurd (omega arith)
  placed_at (suc m) r h =
      by_test (is_entry ws m)
      (λ e.
      let s = rank_step m e in
      by_test (eqb (rank ws m) r)
      (λ q. record { place = m; within = omega arith; an_entry = e; rank_is = eqb-true _ _ q })
      (λ q. let ne : rank ws m ≢ r = eqb-false _ _ q in
      let p = placed_at m r (omega arith) in
      let w = p.within in
      record { place = p.place; within = omega arith; an_entry = p.an_entry; rank_is = p.rank_is }))
      (λ e.
      let s = rank_same m e in
      let p = placed_at m r (omega arith) in
      let w = p.within in
      record { place = p.place; within = omega arith; an_entry = p.an_entry; rank_is = p.rank_is })

  -- ---- the list
  list_take : (i n : ℕ) → is_entry ws i ≡ true → list_from ws i (suc n) ≡ i ∷ need_in (get_or ws i 0) ∷ list_from ws (suc i) n
  unfolding list_from
  list_take i n e = rw e

  list_skip : (i n : ℕ) → is_entry ws i ≡ false → list_from ws i (suc n) ≡ list_from ws (suc i) n
  unfolding list_from
  list_skip i n e = rw e

  pub list_long : (n i k : ℕ) → k ≡ i + n → length (list_from ws i n) + 2 * rank ws i ≡ 2 * rank ws k
  unfolding list_from
  list_long zero i k q = let e : k ≡ i = omega arith in rw e (omega arith)
  list_long (suc n) i k q =
      let r = list_long n (suc i) k (omega arith) in
      by_test (is_entry ws i)
      (λ e. let s = rank_step i e in rw (list_take i n e) (omega arith))
      (λ e. let s = rank_same i e in rw (list_skip i n e) (omega arith))

  twice : (k : ℕ) → 2 * suc k ≡ suc (suc (2 * k))
  twice k = omega arith

  twice_one : (k : ℕ) → 2 * suc k + 1 ≡ suc (suc (2 * k + 1))
  twice_one k = omega arith

  -- what the list says of an entry
  pub record Listed (l : List ℕ) (k e : ℕ) : Type 0 where
    pub entry_is : get_or l (2 * k) 0 ≡ e
    pub need_is : get_or l (2 * k + 1) 0 ≡ need_in (get_or ws e 0)

  pub listed_at : (n i e k : ℕ) → is_entry ws e ≡ true → i ≤ e → e < i + n → rank ws e ≡ rank ws i + k → Listed (list_from ws i n) k e
  listed_at zero i e k h l b q = absurd (omega arith)
  listed_at (suc n) i e zero h l b q =
      by_test (eqb i e)
      (λ j. let s : i ≡ e = eqb-true i e j in
      let h' : is_entry ws i ≡ true = rw s h in
      rw (list_take i n h') (record { entry_is = s; need_is = rw s refl }))
      (λ j. let ne : i ≢ e = eqb-false i e j in
      by_test (is_entry ws i)
      (λ h'. absurd (let r = rank_more i e h' (omega arith) in omega arith))
      (λ h'. rw (list_skip i n h') (listed_at n (suc i) e zero h (omega arith) (omega arith) (q ∙ ap (λ (x : ℕ). x + 0) (sym (rank_same i h'))))))
  listed_at (suc n) i e (suc k) h l b q =
      by_test (eqb i e)
      (λ j. absurd (let s : i ≡ e = eqb-true i e j in let q' : rank ws i ≡ rank ws i + suc k = rw (sym s) at q in omega arith))
      (λ j. let ne : i ≢ e = eqb-false i e j in
      by_test (is_entry ws i)
      (λ h'.
      let s = rank_step i h' in
      let r = listed_at n (suc i) e k h (omega arith) (omega arith) (omega arith) in
      rw (list_take i n h') (record { entry_is = rw (twice k) r.entry_is; need_is = rw (twice_one k) r.need_is }))
      (λ h'.
      let s = rank_same i h' in
      rw (list_skip i n h') (listed_at n (suc i) e (suc k) h (omega arith) (omega arith) (omega arith))))

  -- ---- the sheet
  pub sheet_long : (n i : ℕ) → length (sheet_from ws i n) ≡ 2 * n
  unfolding sheet_from
  sheet_long zero i = refl
  sheet_long (suc n) i = let r = sheet_long n (suc i) in omega arith

  pub sheet_low : (n i j k : ℕ) → j < n → k ≡ i + j → get_or (sheet_from ws i n) (2 * j) 0 ≡ low_byte ws k
  unfolding sheet_from
  sheet_low zero i j k h q = absurd (omega arith)
  sheet_low (suc n) i zero k h q = let e : k ≡ i = omega arith in rw e
  sheet_low (suc n) i (suc j) k h q = rw (twice j) (sheet_low n (suc i) j k (omega arith) (omega arith))

  pub sheet_high : (n i j k : ℕ) → j < n → k ≡ i + j → get_or (sheet_from ws i n) (2 * j + 1) 0 ≡ high_byte ws k
  unfolding sheet_from
  sheet_high zero i j k h q = absurd (omega arith)
  sheet_high (suc n) i zero k h q = let e : k ≡ i = omega arith in rw e
  sheet_high (suc n) i (suc j) k h q = rw (twice_one j) (sheet_high n (suc i) j k (omega arith) (omega arith))

-- ---- the fields of a word
described_read : (d v r : ℕ) → d < 256 → v < 2 → r < 64 → (d + 256 * (128 + 64 * v + r)) / 32768 % 2 ≡ 1
described_read d v r h k l = omega arith

marked_read : (d v r : ℕ) → d < 256 → v < 2 → r < 64 → (d + 256 * (128 + 64 * v + r)) / 16384 % 2 ≡ v
marked_read d v r h k l = omega arith

routine_read : (d v r : ℕ) → d < 256 → v < 2 → r < 64 → (d + 256 * (128 + 64 * v + r)) / 256 % 64 ≡ r
routine_read d v r h k l = omega arith

depth_read : (d x : ℕ) → d < 256 → (d + 256 * x) % 256 ≡ d
depth_read d x h = omega arith

module _ (p : Program) (ws : List ℕ) where
  abbrev D : Listing
  D = draft_of p ws

  word_is : (a : ℕ) → a < 256 → word D a ≡ low_byte ws a + 256 * high_byte ws a
  unfolding word draft_of
  word_is a h = rw (sheet_low ws 256 0 a a h (omega arith), sheet_high ws 256 0 a a h (omega arith))

  pub unseen_word : (a : ℕ) → a < 256 → seen (get_or ws a 0) ≡ false → word D a ≡ 0
  unfolding low_byte high_byte depth_in
  unseen_word a h e = word_is a h ∙ rw (e, unseen_zero _ e)

  pub unseen_described : (a : ℕ) → a < 256 → seen (get_or ws a 0) ≡ false → described D a ≡ false
  unfolding described
  unseen_described a h e = rw (unseen_word a h e)

  seen_word : (a : ℕ) → a < 256 → seen (get_or ws a 0) ≡ true → word D a ≡ depth_in (get_or ws a 0) + 256 * (128 + 64 * bit (mark_in (get_or ws a 0)) + rank ws (entry_in (get_or ws a 0)) % 64)
  unfolding low_byte high_byte
  seen_word a h e = word_is a h ∙ rw e

  -- what the sheet says of a reached address
  pub record Shown (a : ℕ) : Type 0 where
    pub is_described : described D a ≡ true
    pub marked_is : marked D a ≡ mark_in (get_or ws a 0)
    pub routine_is : routine D a ≡ rank ws (entry_in (get_or ws a 0)) % 64
    pub depth_is : depth D a ≡ depth_in (get_or ws a 0)

  pub shown : (a : ℕ) → a < 256 → seen (get_or ws a 0) ≡ true → Shown a
  unfolding described marked routine depth
  shown a h e =
      let w = get_or ws a 0 in
      let r = rank ws (entry_in w) % 64 in
      let l : r < 64 = omega arith in
      let t = bit_two (mark_in w) in
      record {
        is_described = rw (seen_word a h e, described_read (depth_in w) (bit (mark_in w)) r (depth_low w) t l);
        marked_is = rw (seen_word a h e, marked_read (depth_in w) (bit (mark_in w)) r (depth_low w) t l) (bit_read (mark_in w));
        routine_is = rw (seen_word a h e, routine_read (depth_in w) (bit (mark_in w)) r (depth_low w) t l);
        depth_is = rw (seen_word a h e, depth_read (depth_in w) (128 + 64 * bit (mark_in w) + r) (depth_low w));
      }

  pub routines_are : routines D ≡ rank ws 256
  unfolding routines draft_of
  routines_are = let l = list_long ws 256 0 256 (omega arith) in let z = rank_zero ws in omega arith

  pub list_length : length D.list ≡ 2 * rank ws 256
  unfolding draft_of
  list_length = let l = list_long ws 256 0 256 (omega arith) in let z = rank_zero ws in omega arith

  pub sheet_length : length D.sheet ≡ 512
  unfolding draft_of
  sheet_length = sheet_long ws 256 0

  pub entry_listed : (e : ℕ) → e < 256 → is_entry ws e ≡ true → (entry D (rank ws e) ≡ e) × (need D (rank ws e) ≡ need_in (get_or ws e 0))
  unfolding entry need draft_of
  entry_listed e h q =
      let z = rank_zero ws in
      let l = listed_at ws 256 0 e (rank ws e) q zero-le (omega arith) (omega arith) in
      (l.entry_is, l.need_is)
