-- The selected list is the ranking: sorted, with exactly the wanted addresses, each once. And there is only one ranking.
-- Assumes nothing.
use Prim.Native.Nat.{ℕ, zero, suc, ◌+◌, ◌<◌, ◌≤◌}
use mathlib.Core.Path.{◌≡◌, refl, sym, ap, ◌∙◌, subst}
use mathlib.Core.Bool.{Bool, true, false, cond, ◌&&◌, ◌||◌, false≢true}
use mathlib.Core.List.{List, [], ◌∷◌}
use mathlib.Core.Logic.{◌⊎◌, inl, inr, ⊎_elim}
use native.Mathlib.Nat.{not-suc-le-zero, le_refl}
use native.Mathlib.Omega.{arith}
use lib.Dec.{eqb}
use lib.ListN.{length}
use borrow.Author.Tests.{eqb-true, eqb-false, eq-eqb, ne_eqb}
use Rattle.slices.specs.Sizes.{bank_size}
use Rattle.slices.proofs.Bools.{by_test, both, neither}
use Rattle.ranking.specs.Ranking.{StrictOrder, In, Ahead, Sorted, Distinct, Ranking}
use Rattle.ranking.specs.internal.Selection.{none, follows, leads, first_below, list_after}

-- ---- bools

one_of : (a b : Bool) → a || b ≡ true → (a ≡ true) ⊎ (b ≡ true)
one_of true b h = inl refl
one_of false b h = inr h

or_left : (a b : Bool) → a ≡ true → a || b ≡ true
or_left a b h = rw h

or_right : (a b : Bool) → b ≡ true → a || b ≡ true
or_right true b h = refl
or_right false b h = h

and_both : (a b : Bool) → a ≡ true → b ≡ true → a && b ≡ true
and_both a b h k = rw (h, k)

-- where a conjunction fails and its first part holds, the second fails
and_fails : (a b : Bool) → a ≡ true → a && b ≡ false → b ≡ false
and_fails a b h k = rw h at k

-- ---- how many addresses below n pass a test

abbrev passing : (ℕ → Bool) → ℕ → ℕ
passing f zero = 0
passing f (suc n) = cond (f n) (passing f n + 1) (passing f n)

passing_most : (f : ℕ → Bool) (n : ℕ) → passing f n ≤ n
passing_most f zero = le_refl 0
passing_most f (suc n) =
    let h : passing f n ≤ n = passing_most f n in
    by_test (f n) (λ e. rw e (omega arith)) (λ e. rw e (omega arith))

module _ (f g : ℕ → Bool) (more : (a : ℕ) → f a ≡ true → g a ≡ true) where
  passing_grows : (n : ℕ) → passing f n ≤ passing g n
  passing_grows zero = le_refl 0
  passing_grows (suc n) =
      let h : passing f n ≤ passing g n = passing_grows n in
      by_test (f n)
      (λ e. rw (e, more n e) (omega arith))
      (λ e. rw e (by_test (g n) (λ k. rw k (omega arith)) (λ k. rw k (omega arith))))

  -- with one that passes g alone
  passing_less : (x n : ℕ) → x < n → f x ≡ false → g x ≡ true → passing f n < passing g n
  passing_less x zero h p q = absurd (not-suc-le-zero h)
  passing_less x (suc n) h p q =
      by_test (eqb x n)
      (λ e.
      let s : x ≡ n = eqb-true x n e in
      let l : passing f n ≤ passing g n = passing_grows n in
      rw (rw s at p, rw s at q) (omega arith))
      (λ e.
      let s : x ≡ n → ⊥ = eqb-false x n e in
      let l : passing f n < passing g n = passing_less x n (omega arith) p q in
      by_test (f n)
      (λ k. rw (k, more n k) (omega arith))
      (λ k. rw k (by_test (g n) (λ j. rw j (omega arith)) (λ j. rw j (omega arith)))))

-- ---- the scan: the best below n, and the next address

pub first_most : (before : ℕ → ℕ → Bool) (wanted : ℕ → Bool) (last n : ℕ) → n ≤ bank_size → first_below before wanted last n ≤ bank_size
unfolding first_below
first_most before wanted last zero h = le_refl bank_size
first_most before wanted last (suc n) h =
    let l : first_below before wanted last n ≤ bank_size = first_most before wanted last n (omega arith) in
    by_test (leads before wanted last (first_below before wanted last n) n) (λ e. rw e (omega arith)) (λ e. rw e l)

-- ---- sorted lists

module _ {before : ℕ → ℕ → Bool} (o : StrictOrder before) where
  not_itself : (a : ℕ) → before a a ≡ true → ⊥
  not_itself a h = false≢true (sym (o.irreflexive a) ∙ h)

  otherwise : (a b : ℕ) → (a ≡ b → ⊥) → before a b ≡ false → before b a ≡ true
  otherwise a b q h = ⊎_elim (λ t. absurd (false≢true (sym h ∙ t))) (λ t. t) (o.total a b q)

  ahead_of : (x : ℕ) (l : List ℕ) → Ahead before x l → (a : ℕ) → In a l → before x a ≡ true
  ahead_of x [] h a i = absurd i
  ahead_of x (y ∷ l) h a i = ⊎_elim (λ e. rw e h.0) (λ j. ahead_of x l h.1 a j) i

  is_ahead : (x : ℕ) (l : List ℕ) → ((a : ℕ) → In a l → before x a ≡ true) → Ahead before x l
  is_ahead x [] f = tt
  is_ahead x (y ∷ l) f = (f y (inl refl), is_ahead x l (λ a i. f a (inr i)))

  sorted_once : (l : List ℕ) → Sorted before l → Distinct l
  sorted_once [] s = tt
  sorted_once (x ∷ l) s = (λ i. not_itself x (ahead_of x l s.0 x i), sorted_once l s.1)

  -- two lists in a strict order with the same elements are the same list
  same_lists : (l k : List ℕ) → Sorted before l → Sorted before k → ((a : ℕ) → In a l → In a k) → ((a : ℕ) → In a k → In a l) → l ≡ k
  same_lists [] [] s t f g = refl
  same_lists [] (y ∷ k) s t f g = absurd (g y (inl refl))
  same_lists (x ∷ l) [] s t f g = absurd (f x (inl refl))
  same_lists (x ∷ l) (y ∷ k) s t f g =
      let e : x ≡ y =
      ⊎_elim
      (λ e. e)
      (λ i.
      ⊎_elim
      (λ e. sym e)
      (λ j. absurd (not_itself x (o.transitive x y x (ahead_of x l s.0 y j) (ahead_of y k t.0 x i))))
      (g y (inl refl)))
      (f x (inl refl)) in
      let r : l ≡ k =
      same_lists l k s.1 t.1
      (λ a i.
      ⊎_elim
      (λ q. absurd (not_itself x (subst (λ (z : ℕ). before x z ≡ true) (q ∙ sym e) (ahead_of x l s.0 a i))))
      (λ j. j)
      (f a (inr i)))
      (λ a i.
      ⊎_elim
      (λ q. absurd (not_itself y (subst (λ (z : ℕ). before y z ≡ true) (q ∙ e) (ahead_of y k t.0 a i))))
      (λ j. j)
      (g a (inr i))) in
      cc

  -- ---- the list

  module _ (wanted : ℕ → Bool) where
    abbrev fits : ℕ → ℕ → Bool
    fits last a = follows before wanted last a

    record First (last n best : ℕ) : Type 0 where
      pub found : (best ≡ none → ⊥) → (best < n) × (fits last best ≡ true)
      pub least : (b : ℕ) → b < n → fits last b ≡ true → (best ≡ none → ⊥) × ((b ≡ best) ⊎ (before best b ≡ true))

    first_here : (last n best : ℕ) → n < bank_size → First last n best → leads before wanted last best n ≡ true → First last (suc n) n
    first_here last n best h i t =
        let w : (fits last n ≡ true) × ((eqb best none || before n best) ≡ true) = both (fits last n) (eqb best none || before n best) t in
        record {
          found = λ q. (le_refl (suc n), w.0);
          least = λ b l f. (
            λ q. omega arith,
            by_test (eqb b n)
                (λ e. inl (eqb-true b n e))
                (λ e.
                let s : b ≡ n → ⊥ = eqb-false b n e in
                let j : (best ≡ none → ⊥) × ((b ≡ best) ⊎ (before best b ≡ true)) = i.least b (omega arith) f in
                ⊎_elim
                (λ k. absurd (j.0 (eqb-true best bank_size k)))
                (λ k. inr (⊎_elim (λ q. rw q k) (λ q. o.transitive n best b k q) j.1))
                (one_of (eqb best none) (before n best) w.1)),
          );
        }

    first_kept : (last n best : ℕ) → First last n best → leads before wanted last best n ≡ false → First last (suc n) best
    first_kept last n best i t =
        record {
          found = λ q. let j : (best < n) × (fits last best ≡ true) = i.found q in (omega arith, j.1);
          least = λ b l f.
              by_test (eqb b n)
              (λ e.
              let s : b ≡ n = eqb-true b n e in
              let f' : fits last n ≡ true = rw s at f in
              let u : (eqb best none ≡ false) × (before n best ≡ false) =
              neither (eqb best none) (before n best) (and_fails (fits last n) (eqb best none || before n best) f' t) in
              let q : best ≡ none → ⊥ = eqb-false best bank_size u.0 in
              let j : best < n = (i.found q).0 in
              (q, inr (rw s (otherwise n best (λ r. omega arith) u.1))))
              (λ e.
              let s : b ≡ n → ⊥ = eqb-false b n e in
              i.least b (omega arith) f);
        }

    first_is : (last n : ℕ) → n ≤ bank_size → First last n (first_below before wanted last n)
    unfolding first_below
    first_is last zero h =
        record { found = λ q. absurd (q refl); least = λ b l f. absurd (not-suc-le-zero l) }
    first_is last (suc n) h =
        let i : First last n (first_below before wanted last n) = first_is last n (omega arith) in
        by_test (leads before wanted last (first_below before wanted last n) n)
        (λ e. subst (λ (x : ℕ). First last (suc n) x) (sym (ap (λ (t : Bool). cond t n (first_below before wanted last n)) e)) (first_here last n (first_below before wanted last n) (omega arith) i e))
        (λ e. subst (λ (x : ℕ). First last (suc n) x) (sym (ap (λ (t : Bool). cond t n (first_below before wanted last n)) e)) (first_kept last n (first_below before wanted last n) i e))

    abbrev next : ℕ → ℕ
    next last = first_below before wanted last bank_size

    next_is : (last : ℕ) → First last bank_size (next last)
    next_is last = first_is last bank_size (le_refl bank_size)

    pub list_ends : (n last : ℕ) → next last ≡ none → list_after before wanted (suc n) last ≡ []
    unfolding list_after
    list_ends n last e = ap (λ (t : Bool). cond t [] (next last ∷ list_after before wanted n (next last))) (eq-eqb (next last) none e)

    pub list_goes : (n last : ℕ) → (next last ≡ none → ⊥) → list_after before wanted (suc n) last ≡ next last ∷ list_after before wanted n (next last)
    unfolding list_after
    list_goes n last e = ap (λ (t : Bool). cond t [] (next last ∷ list_after before wanted n (next last))) (ne_eqb (next last) none e)

    pub list_none : (last : ℕ) → list_after before wanted 0 last ≡ []
    unfolding list_after
    list_none last = refl

    -- what follows an address that follows `last` follows `last`
    follows_on : (last x a : ℕ) → (x ≡ none → ⊥) → fits last x ≡ true → fits x a ≡ true → (before x a ≡ true) × (fits last a ≡ true)
    follows_on last x a q f g =
        let u : (wanted x ≡ true) × ((eqb last none || before last x) ≡ true) = both (wanted x) (eqb last none || before last x) f in
        let v : (wanted a ≡ true) × ((eqb x none || before x a) ≡ true) = both (wanted a) (eqb x none || before x a) g in
        let b : before x a ≡ true =
        ⊎_elim (λ k. absurd (q (eqb-true x bank_size k))) (λ k. k) (one_of (eqb x none) (before x a) v.1) in (
          b,
          and_both (wanted a) (eqb last none || before last a) v.0
              (⊎_elim
              (λ k. or_left (eqb last none) (before last a) k)
              (λ k. or_right (eqb last none) (before last a) (o.transitive last x a k b))
              (one_of (eqb last none) (before last x) u.1)),
        )

    list_only : (n last a : ℕ) → In a (list_after before wanted n last) → (a < bank_size) × (fits last a ≡ true)
    list_only zero last a i = absurd (rw (list_none last) at i)
    list_only (suc n) last a i =
        by_test (eqb (next last) none)
        (λ e. absurd (rw (list_ends n last (eqb-true (next last) bank_size e)) at i))
        (λ e.
        let q : next last ≡ none → ⊥ = eqb-false (next last) bank_size e in
        let j : In a (next last ∷ list_after before wanted n (next last)) = rw (list_goes n last q) at i in
        let w : (next last < bank_size) × (fits last (next last) ≡ true) = (next_is last).found q in
        ⊎_elim
        (λ s. rw s w)
        (λ k.
        let h : (a < bank_size) × (fits (next last) a ≡ true) = list_only n (next last) a k in
        (h.0, (follows_on last (next last) a q w.1 h.1).1))
        j)

    list_sorted : (n last : ℕ) → Sorted before (list_after before wanted n last)
    list_sorted zero last = rw (list_none last) tt
    list_sorted (suc n) last =
        by_test (eqb (next last) none)
        (λ e. rw (list_ends n last (eqb-true (next last) bank_size e)) tt)
        (λ e.
        let q : next last ≡ none → ⊥ = eqb-false (next last) bank_size e in
        let w : (next last < bank_size) × (fits last (next last) ≡ true) = (next_is last).found q in
        rw (list_goes n last q) (
          is_ahead (next last) (list_after before wanted n (next last))
              (λ a i. (follows_on last (next last) a q w.1 (list_only n (next last) a i).1).0),
          list_sorted n (next last),
        ))

    -- as long as there are no more that follow than may be listed, all are
    list_all : (n last : ℕ) → passing (fits last) bank_size ≤ n → (a : ℕ) → a < bank_size → fits last a ≡ true → In a (list_after before wanted n last)
    list_all zero last few a h f =
        let l : passing (λ x. false) bank_size < passing (fits last) bank_size = passing_less (λ x. false) (fits last) (λ x e. absurd (false≢true e)) a bank_size h refl f in
        absurd (omega arith)
    list_all (suc n) last few a h f =
        let w : (next last ≡ none → ⊥) × ((a ≡ next last) ⊎ (before (next last) a ≡ true)) = (next_is last).least a h f in
        let q : next last ≡ none → ⊥ = w.0 in
        let x : (next last < bank_size) × (fits last (next last) ≡ true) = (next_is last).found q in
        let out : fits (next last) (next last) ≡ false =
        by_test (fits (next last) (next last))
        (λ e. absurd (not_itself (next last) (follows_on last (next last) (next last) q x.1 e).0))
        (λ e. e) in
        let less : passing (fits (next last)) bank_size < passing (fits last) bank_size =
        passing_less (fits (next last)) (fits last) (λ b e. (follows_on last (next last) b q x.1 e).1) (next last) bank_size x.0 out x.1 in
        rw (list_goes n last q)
        (⊎_elim
        (λ s. inl s)
        (λ b.
        inr
        (list_all n (next last) (omega arith) a h
        (and_both (wanted a) (eqb (next last) none || before (next last) a) (both (wanted a) (eqb last none || before last a) f).0
        (or_right (eqb (next last) none) (before (next last) a) b))))
        w.1)

    pub list_short : (n last : ℕ) → length (list_after before wanted n last) ≤ n
    list_short zero last = rw (list_none last) (le_refl 0)
    list_short (suc n) last =
        by_test (eqb (next last) none)
        (λ e. rw (list_ends n last (eqb-true (next last) bank_size e)) (omega arith))
        (λ e. let h : length (list_after before wanted n (next last)) ≤ n = list_short n (next last) in rw (list_goes n last (eqb-false (next last) bank_size e)) (omega arith))

    pub ranking : Ranking before wanted (list_after before wanted bank_size none)
    ranking =
        record {
          sorted = list_sorted bank_size none;
          once = sorted_once (list_after before wanted bank_size none) (list_sorted bank_size none);
          only = λ a i.
              let w : (a < bank_size) × (fits bank_size a ≡ true) = list_only bank_size none a i in
              (w.0, (both (wanted a) true w.1).0);
          all = λ a h f. list_all bank_size none (passing_most (fits bank_size) bank_size) a h (and_both (wanted a) true f refl);
        }

    pub one_ranking : (l k : List ℕ) → Ranking before wanted l → Ranking before wanted k → l ≡ k
    one_ranking l k r s =
        same_lists l k r.sorted s.sorted
        (λ a i. let w : (a < bank_size) × (wanted a ≡ true) = r.only a i in s.all a w.0 w.1)
        (λ a i. let w : (a < bank_size) × (wanted a ≡ true) = s.only a i in r.all a w.0 w.1)
