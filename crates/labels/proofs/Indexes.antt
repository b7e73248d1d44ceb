-- The index of labels: no line before an entry's gives a name of that number. A line that is passed over gives no name whose number has no entry
-- yet, since it would have been entered.
-- Assumes nothing.
use Prim.Native.Nat.{ℕ, zero, suc, ◌+◌, ◌*◌, ◌%◌, ◌≤◌, ◌<◌}
use native.Mathlib.Omega.{arith}
use native.Mathlib.Numerals.{add-one}
use mathlib.Core.Path.{◌≡◌, refl, sym, ap, ◌∙◌}
use mathlib.Core.Bool.{Bool, true, false, cond, ◌&&◌}
use mathlib.Core.List.{List, [], ◌∷◌}
use lib.Dec.{eqb}
use lib.ListN.{length, get_or, drop, set, replicate, drop_of_length-le, length-set, length-replicate, get_or-replicate}
use lib.Seq.{get_or-set_same, get_or-set_other, drop-cons}
use borrow.Author.Tests.{eq-eqb, ne_eqb, eqb-true, eqb-false}
use Rattle.slices.proofs.Bools.{by_test, both}
use Rattle.slices.proofs.Lookup.{zeros}
use Rattle.labels.specs.Lines.{lines_of, label_size, label_of, is_labelled}
use Rattle.labels.specs.Labels.{same, given_at}
use Rattle.labels.specs.internal.Search.{slots, hash_from, hash_of, is_new, starts_after, numbers_after, NewIndex, Index}
use Rattle.labels.proofs.Cuts.{AtLine, line_starts, line_goes, lines_over}
use Rattle.labels.specs.internal.Turns.{Turn}
use Rattle.labels.proofs.Names.{same_equal, given_labelled}
use Rattle.labels.proofs.Searches.{given_one, given_none, Looking}

hash_below : (l : List ℕ) (h : ℕ) → h < slots → hash_from h l < slots
unfolding hash_from
hash_below [] h b = b
hash_below (c ∷ l) h b = hash_below l ((33 * h + c) % slots) (omega arith)

pub hash_low : (l : List ℕ) → hash_of l < slots
hash_low l = hash_below l 0 (omega arith)

-- the loop over the letters of a name
pub record Hashing (l : List ℕ) (i h : ℕ) : Type 0 where
  pub low : h < slots
  pub left : hash_of l ≡ hash_from h (drop i l)

pub hash_starts : {l : List ℕ} → Hashing l 0 0
hash_starts = record { low = omega arith; left = refl }

hash_one : (h c : ℕ) (l : List ℕ) → hash_from h (c ∷ l) ≡ hash_from ((33 * h + c) % slots) l
unfolding hash_from
hash_one h c l = refl

hash_none : (h : ℕ) → hash_from h [] ≡ h
unfolding hash_from
hash_none h = refl

module _ {l : List ℕ} {i h : ℕ} (r : Hashing l i h) where
  pub hash_goes : i < length l → Hashing l (i + 1) ((33 * h + get_or l i 0) % slots)
  hash_goes b =
      record {
        low = omega arith;
        left = rw (add-one i) (r.left ∙ (ap (hash_from h) (drop-cons l i 0 b) ∙ hash_one h (get_or l i 0) (drop (suc i) l)));
      }

  pub hash_ends : length l ≤ i → (h ≡ hash_of l) × (h < slots)
  hash_ends b = (sym (r.left ∙ (ap (hash_from h) (drop_of_length-le l b) ∙ hash_none h)), r.low)

-- where the search for a name of number h may begin: at its entry, or, where it has none, at the line that the loop has come to
abbrev entered : List ℕ → List ℕ → ℕ → ℕ → List ℕ → List ℕ → ℕ
entered name t at k starts numbers =
    cond (eqb (get_or numbers (hash_of name) 0) 0) (given_at name (lines_of (drop at t)) k)
    (given_at name (lines_of (drop (get_or starts (hash_of name) 0) t)) (get_or numbers (hash_of name) 0))

pub record Indexing (t : List ℕ) (at k : ℕ) (starts numbers : List ℕ) : Type 0 where
  pub line : AtLine t at k
  pub start_room : length starts ≡ slots
  pub number_room : length numbers ≡ slots
  pub within : (h : ℕ) → get_or starts h 0 ≤ length t
  pub few : (h : ℕ) → get_or numbers h 0 ≤ get_or starts h 0 + 1
  pub unset : (h : ℕ) → h < slots → get_or numbers h 0 ≡ 0 → get_or starts h 0 ≡ length t
  pub skips : (name : List ℕ) → 0 < length name → given_at name (lines_of t) 1 ≡ entered name t at k starts numbers

-- an entry of a list that holds one number
replicated : (n a h : ℕ) → get_or (replicate n a) h 0 ≤ a
replicated zero a h = omega arith
replicated (suc n) a zero = omega arith
replicated (suc n) a (suc h) = replicated n a h

pub new_rooms : (t : List ℕ) {starts numbers : List ℕ} → NewIndex t starts numbers → (length starts ≡ slots) × (length numbers ≡ slots)
new_rooms t e = (ap length e.0 ∙ length-replicate slots (length t), ap length e.1 ∙ length-replicate {A = ℕ} slots 0)

pub index_starts : {t starts numbers : List ℕ} → NewIndex t starts numbers → Indexing t 0 1 starts numbers
index_starts {t} {starts} {numbers} e =
    record {
      line = line_starts;
      start_room = (new_rooms t e).0;
      number_room = (new_rooms t e).1;
      within = λ h. rw e.0 (replicated slots (length t) h);
      few = λ h. rw (e.1, zeros slots h) (omega arith);
      unset = λ h l z. rw e.0 (get_or-replicate slots h (length t) 0 l);
      skips = λ name l. rw (e.1, zeros slots (hash_of name));
    }

-- an entry of a list with one set
set_entry : (l : List ℕ) (i a h : ℕ) → length l ≡ slots → i < slots → get_or (set l i a) h 0 ≡ cond (eqb h i) a (get_or l h 0)
set_entry l i a h r b =
    by_test (eqb h i)
    (λ e. let q = eqb-true h i e in rw (e, q) (get_or-set_same l i a 0 (omega arith)))
    (λ e. rw e (get_or-set_other l i h a 0 (eqb-false h i e)))

module _ {t l : List ℕ} {at k a : ℕ} {starts numbers : List ℕ} (r : Indexing t at k starts numbers) (n : Turn t at l a) where
  abbrev slot : ℕ
  slot = hash_of (label_of l)

  starts_entry : (b : Bool) → b ≡ is_new l numbers → (i : ℕ) → get_or (starts_after l at numbers starts) i 0 ≡ cond (b && eqb i slot) at (get_or starts i 0)
  starts_entry true q i = rw (← q) (set_entry starts slot at i r.start_room (hash_low (label_of l)))
  starts_entry false q i = rw (← q)

  numbers_entry : (b : Bool) → b ≡ is_new l numbers → (i : ℕ) → get_or (numbers_after l k numbers) i 0 ≡ cond (b && eqb i slot) k (get_or numbers i 0)
  numbers_entry true q i = rw (← q) (set_entry numbers slot k i r.number_room (hash_low (label_of l)))
  numbers_entry false q i = rw (← q)

  -- the entry of number i is this line's, or as it was
  data Entry (i : ℕ) : Type 0 where
    this : is_new l numbers ≡ true → i ≡ slot → get_or (starts_after l at numbers starts) i 0 ≡ at → get_or (numbers_after l k numbers) i 0 ≡ k → Entry i
    other : (is_new l numbers ≡ true → i ≡ slot → ⊥) → get_or (starts_after l at numbers starts) i 0 ≡ get_or starts i 0
        → get_or (numbers_after l k numbers) i 0 ≡ get_or numbers i 0 → Entry i

  no : true ≡ false → ⊥
  no q = let z : ◌≡◌ {A = ℕ} 0 1 = cc in omega arith

  entry : (i : ℕ) → Entry i
  entry i =
      by_test (is_new l numbers)
      (λ b. by_test (eqb i slot)
      (λ s. this b (eqb-true i slot s) (starts_entry true (sym b) i ∙ rw s) (numbers_entry true (sym b) i ∙ rw s))
      (λ s. other (λ _ q. eqb-false i slot s q) (starts_entry true (sym b) i ∙ rw s) (numbers_entry true (sym b) i ∙ rw s)))
      (λ b. other (λ c _. no (sym c ∙ b)) (starts_entry false (sym b) i) (numbers_entry false (sym b) i))

  -- a line that gives a name has an entry for it afterwards
  module _ (name : List ℕ) (some : 0 < length name) where
    passed : same (label_of l) name ≡ false → given_at name (lines_of (drop at t)) k ≡ given_at name (lines_of (drop a t)) (k + 1)
    passed z = ap (λ (ls : List (List ℕ)). given_at name ls k) n.first ∙ (given_one name l (lines_of (drop a t)) k ∙ rw z)

    new_name : label_of l ≡ name → get_or numbers (hash_of name) 0 ≡ 0 → is_new l numbers ≡ true
    new_name q z =
        let s : get_or numbers slot 0 ≡ 0 = ap (λ (x : List ℕ). get_or numbers (hash_of x) 0) q ∙ z in
        rw (ne_eqb (label_size l) 0 (given_labelled l name some q), eq-eqb (get_or numbers slot 0) 0 s)

    entered_still : entered name t at k starts numbers ≡ entered name t a (k + 1) (starts_after l at numbers starts) (numbers_after l k numbers)
    entered_still = by (entry (hash_of name))
      where
        by : Entry (hash_of name) → entered name t at k starts numbers ≡ entered name t a (k + 1) (starts_after l at numbers starts) (numbers_after l k numbers)
        by (this b i p q) =
            let z : get_or numbers (hash_of name) 0 ≡ 0 = ap (λ (x : ℕ). get_or numbers x 0) i ∙ eqb-true _ _ (both (is_labelled l) _ b).1 in
            rw (p, q, z, ne_eqb k 0 (omega (arith, r.line.from)))
        by (other o p q) =
            rw (p, q)
            (by_test (eqb (get_or numbers (hash_of name) 0) 0)
            (λ z. rw z (passed (by_test (same (label_of l) name)
            (λ s. let w = same_equal (label_of l) name s in
            absurd (o (new_name w (eqb-true _ _ z)) (sym (ap hash_of w))))
            (λ s. s))))
            (λ z. rw z))

  pub index_goes : Indexing t a (k + 1) (starts_after l at numbers starts) (numbers_after l k numbers)
  index_goes =
      record {
        line = line_goes r.line n;
        start_room = by_test (is_new l numbers) (λ b. rw b (length-set starts slot at ∙ r.start_room)) (λ b. rw b r.start_room);
        number_room = by_test (is_new l numbers) (λ b. rw b (length-set numbers slot k ∙ r.number_room)) (λ b. rw b r.number_room);
        within = within_still;
        few = few_still;
        unset = unset_still;
        skips = λ name some. r.skips name some ∙ entered_still name some;
      }
    where
      within_still : (i : ℕ) → get_or (starts_after l at numbers starts) i 0 ≤ length t
      within_still i = by (entry i)
        where
          by : Entry i → get_or (starts_after l at numbers starts) i 0 ≤ length t
          by (this b s p q) = rw p (omega (arith, n.later, n.within))
          by (other o p q) = rw p (r.within i)

      few_still : (i : ℕ) → get_or (numbers_after l k numbers) i 0 ≤ get_or (starts_after l at numbers starts) i 0 + 1
      few_still i = by (entry i)
        where
          by : Entry i → get_or (numbers_after l k numbers) i 0 ≤ get_or (starts_after l at numbers starts) i 0 + 1
          by (this b s p q) = rw (p, q) r.line.few
          by (other o p q) = rw (p, q) (r.few i)

      unset_still : (i : ℕ) → i < slots → get_or (numbers_after l k numbers) i 0 ≡ 0 → get_or (starts_after l at numbers starts) i 0 ≡ length t
      unset_still i low z = by (entry i)
        where
          by : Entry i → get_or (starts_after l at numbers starts) i 0 ≡ length t
          by (this b s p q) = absurd (omega (arith, sym q ∙ z, r.line.from))
          by (other o p q) = p ∙ r.unset i low (sym q ∙ z)

pub index_ends : {t : List ℕ} {at k : ℕ} {starts numbers : List ℕ} → Indexing t at k starts numbers → lines_of (drop at t) ≡ [] → Index t starts numbers
index_ends {t} {at} {k} {starts} {numbers} r h =
    record {
      start_room = r.start_room;
      number_room = r.number_room;
      within = r.within;
      few = r.few;
      skips = λ name some. r.skips name some ∙ at_end name;
    }
  where
    at_end : (name : List ℕ) → entered name t at k starts numbers ≡ given_at name (lines_of (drop (get_or starts (hash_of name) 0) t)) (get_or numbers (hash_of name) 0)
    at_end name =
        by_test (eqb (get_or numbers (hash_of name) 0) 0)
        (λ z. rw z (ap (λ (ls : List (List ℕ)). given_at name ls k) h ∙ given_none name k
        ∙ sym (ap (λ (ls : List (List ℕ)). given_at name ls (get_or numbers (hash_of name) 0))
        (lines_over t (get_or starts (hash_of name) 0) (omega (arith, r.unset (hash_of name) (hash_low name) (eqb-true _ _ z))))
        ∙ given_none name (get_or numbers (hash_of name) 0))))
        (λ z. rw z)

-- a search begins at the entry of its name's number
pub look_starts : {t starts numbers : List ℕ} {h : ℕ} (name : List ℕ) → Index t starts numbers → 0 < length name → h ≡ hash_of name
    → Looking name t (get_or starts h 0) (get_or numbers h 0)
look_starts {t} {starts} {numbers} {h} name r some e = record { within = r.within h; few = r.few h; left = rw e (r.skips name some) }

-- what one line enters: nothing without a label, nothing where the number has an entry, else the line
module _ (l : List ℕ) (at k : ℕ) (starts numbers : List ℕ) where
  pub not_labelled : label_size l ≡ 0 → (starts ≡ starts_after l at numbers starts) × (numbers ≡ numbers_after l k numbers)
  not_labelled z = (rw z, rw z)

  module _ {h : ℕ} (some : label_size l ≡ 0 → ⊥) (e : h ≡ hash_of (label_of l)) where
    pub held : (get_or numbers h 0 ≡ 0 → ⊥) → (starts ≡ starts_after l at numbers starts) × (numbers ≡ numbers_after l k numbers)
    held z =
        let f : eqb (get_or numbers (hash_of (label_of l)) 0) 0 ≡ false = ne_eqb _ 0 (rw e at z) in
        (rw (ne_eqb (label_size l) 0 some, f), rw (ne_eqb (label_size l) 0 some, f))

    pub newly : get_or numbers h 0 ≡ 0 → (set starts h at ≡ starts_after l at numbers starts) × (set numbers h k ≡ numbers_after l k numbers)
    newly z =
        let f : eqb (get_or numbers (hash_of (label_of l)) 0) 0 ≡ true = eq-eqb _ 0 (rw e at z) in
        (rw (ne_eqb (label_size l) 0 some, f, e), rw (ne_eqb (label_size l) 0 some, f, e))
