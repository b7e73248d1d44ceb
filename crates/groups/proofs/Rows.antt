-- A row of fields n times, read row by row: what is left, read from here, gives the answer of the whole. One law for every loop over such rows.
-- Assumes nothing.
use Prim.Native.Nat.{ℕ, zero, suc, ◌+◌, ◌-◌, ◌≤◌, ◌<◌}
use native.Mathlib.Omega.{arith}
use mathlib.Core.Path.{◌≡◌, refl, sym, ap, ◌∙◌}
use mathlib.Core.List.{List, [], ◌∷◌, ◌++◌}
use lib.ListN.{length, get_or, drop, drop_of_length-le}
use lib.Seq.{get_or-drop, drop-drop, drop-append_seam}
use Rattle.groups.specs.Fields.{Read, got, refused, and_then, Field, repeated, field_in, numbers_in}
use Rattle.groups.specs.internal.Places.{ReadsAs}
use Rattle.groups.proofs.Fields.{InFields, numbers_split, row_fits}
use Rattle.groups.proofs.Readings.{came, then_then, then_same}

-- what follows a row, given the numbers and the bytes behind it
abbrev pub After : Type 0 → Type 0
After X = List ℕ → List ℕ → Read X

-- a of n rows are read, the others stand at `next`; f was to follow the whole, g follows what is left
pub record Rows {X : Type 0} (fs : List Field) (file : List ℕ) (at n a next : ℕ) (f g : After X) : Type 0 where
  pub within : a ≤ n
  pub inside : at ≤ length file → next ≤ length file
  pub left : and_then (numbers_in (repeated n fs) (drop at file)) f ≡ and_then (numbers_in (repeated (n - a) fs) (drop next file)) g

-- one row and then m more
one_row : {X : Type 0} (fs : List Field) (k m : ℕ) (bs : List ℕ) (g : After X) (r : Read (List ℕ)) → k ≡ suc m → r ≡ numbers_in fs bs
    → and_then (numbers_in (repeated k fs) bs) g ≡ and_then r (λ xs rest. and_then (numbers_in (repeated m fs) rest) (λ ys left. g (xs ++ ys) left))
one_row fs k m bs g r e h =
    rw (e, h)
    (ap (λ (x : Read (List ℕ)). and_then x g) (numbers_split fs (repeated m fs) bs)
    ∙ then_then (numbers_in fs bs) _ g
    ∙ then_same (numbers_in fs bs) _ _ (λ xs rest. then_then (numbers_in (repeated m fs) rest) _ g))

no_row : {X : Type 0} (fs : List Field) (k : ℕ) (bs : List ℕ) (g : After X) → k ≡ 0 → and_then (numbers_in (repeated k fs) bs) g ≡ g [] bs
unfolding numbers_in
no_row fs k bs g e = rw e

module _ {X : Type 0} {fs : List Field} {file : List ℕ} {at n a next : ℕ} {f g : After X} (w : Rows fs file at n a next f g) where
  -- a row is refused, and so is the whole
  pub rows_stop : (q p : ℕ) → a < n → ReadsAs file next (numbers_in fs (drop next file)) (refused q (drop p file)) p
      → ReadsAs file at (and_then (numbers_in (repeated n fs) (drop at file)) f) (refused q (drop p file)) p
  rows_stop q p l h =
      record {
        reads = sym (w.left ∙ one_row fs (n - a) (n - (a + 1)) (drop next file) g (refused q (drop p file)) (omega arith) h.reads);
        within = λ i. h.within (w.inside i);
      }

  pub rows_go : (zs : List ℕ) (behind : ℕ) (g' : After X) → a < n → ReadsAs file next (numbers_in fs (drop next file)) (got zs (drop behind file)) behind
      → ((ys rest : List ℕ) → g (zs ++ ys) rest ≡ g' ys rest) → Rows fs file at n (a + 1) behind f g'
  rows_go zs behind g' l h k =
      record {
        within = omega arith;
        inside = λ i. h.within (w.inside i);
        left = w.left
            ∙ one_row fs (n - a) (n - (a + 1)) (drop next file) g (got zs (drop behind file)) (omega arith) h.reads
            ∙ then_same (numbers_in (repeated (n - (a + 1)) fs) (drop behind file)) _ _ k;
      }

  pub rows_end : n ≤ a → ReadsAs file at (and_then (numbers_in (repeated n fs) (drop at file)) f) (g [] (drop next file)) next
  rows_end l = record { reads = sym (w.left ∙ no_row fs (n - a) (drop next file) g (omega arith)); within = w.inside }

-- ---- a field, and those behind it

module _ (f : Field) (fs : List Field) {file : List ℕ} {at : ℕ} where
  pub field_stops : {q p : ℕ} → ReadsAs file at (field_in f (drop at file)) (refused q (drop p file)) p
      → ReadsAs file at (numbers_in (f ∷ fs) (drop at file)) (refused q (drop p file)) p
  unfolding numbers_in
  field_stops h = let e = h.reads in record { reads = rw (← e); within = h.within }

  module _ {v next : ℕ} (h : ReadsAs file at (field_in f (drop at file)) (got v (drop next file)) next) where
    pub then_stops : {q p : ℕ} → ReadsAs file next (numbers_in fs (drop next file)) (refused q (drop p file)) p
        → ReadsAs file at (numbers_in (f ∷ fs) (drop at file)) (refused q (drop p file)) p
    unfolding numbers_in
    then_stops g =
        let e = h.reads in
        let d = g.reads in
        record { reads = rw (← e, ← d); within = λ i. g.within (h.within i) }

    pub then_ends : {vs : List ℕ} {last : ℕ} → ReadsAs file next (numbers_in fs (drop next file)) (got vs (drop last file)) last
        → ReadsAs file at (numbers_in (f ∷ fs) (drop at file)) (got (v ∷ vs) (drop last file)) last
    unfolding numbers_in
    then_ends g =
        let e = h.reads in
        let d = g.reads in
        record { reads = rw (← e, ← d); within = λ i. g.within (h.within i) }

-- a row of one field
pub one_field : (f : Field) {file : List ℕ} {at v next : ℕ} → ReadsAs file at (field_in f (drop at file)) (got v (drop next file)) next
    → ReadsAs file at (numbers_in (f ∷ []) (drop at file)) (got (v ∷ []) (drop next file)) next
unfolding numbers_in
one_field f h = let e = h.reads in record { reads = rw (← e); within = h.within }

-- ---- the numbers known: xs from j on stand as rows in front of some bytes

row_long : (fs : List Field) (vs : List ℕ) → InFields fs vs → length vs ≡ length fs
row_long [] [] h = refl
row_long (f ∷ fs) (v ∷ vs) h = ap suc (row_long fs vs h.2)
row_long [] (v ∷ vs) h = absurd h
row_long (f ∷ fs) [] h = absurd h

-- the first of them, and k others behind it
pub record RowAhead (fs : List Field) (k : ℕ) (bs xs : List ℕ) (j : ℕ) (rest : List ℕ) : Type 0 where
  pub here : List ℕ
  pub mid : List ℕ
  pub fit : InFields fs here
  pub reads : numbers_in fs bs ≡ got here mid
  pub numbers : (d : ℕ) → d < length fs → get_or xs (j + d) 0 ≡ get_or here d 0
  pub others : numbers_in (repeated k fs) mid ≡ got (drop (j + length fs) xs) rest

front_at : (zs us : List ℕ) (d : ℕ) → d < length zs → get_or (zs ++ us) d 0 ≡ get_or zs d 0
front_at [] us d h = absurd (omega arith)
front_at (z ∷ zs) us zero h = refl
front_at (z ∷ zs) us (suc d) h = front_at zs us d (omega arith)

row_put : (fs : List Field) (k : ℕ) (bs xs : List ℕ) (j : ℕ) {zs mid us left rest : List ℕ} → numbers_in fs bs ≡ got zs mid → numbers_in (repeated k fs) mid ≡ got us left
    → drop j xs ≡ zs ++ us → left ≡ rest → RowAhead fs k bs xs j rest
row_put fs k bs xs j {zs} {mid} {us} {rest = rest} a b e q =
    let long = row_long fs zs (row_fits fs bs a) in
    let behind : drop (j + length fs) xs ≡ us =
    sym (drop-drop (length fs) j xs) ∙ ap (drop (length fs)) e ∙ ap (λ (n : ℕ). drop n (zs ++ us)) (sym long) ∙ drop-append_seam zs us in
    record {
      here = zs;
      mid = mid;
      fit = row_fits fs bs a;
      reads = a;
      numbers = λ d h. sym (get_or-drop j xs d 0) ∙ ap (λ (l : List ℕ). get_or l d 0) e ∙ front_at zs us d (omega arith);
      others = b ∙ ap (got us) q ∙ ap (λ (l : List ℕ). got l rest) (sym behind);
    }

pub row_ahead : (fs : List Field) (m k : ℕ) (bs xs : List ℕ) (j : ℕ) (rest : List ℕ) → m ≡ suc k → numbers_in (repeated m fs) bs ≡ got (drop j xs) rest
    → RowAhead fs k bs xs j rest
row_ahead fs m k bs xs j rest q e =
    let d : and_then (numbers_in fs bs) (λ zs mid. and_then (numbers_in (repeated k fs) mid) (λ us left. got (zs ++ us) left)) ≡ got (drop j xs) rest =
    sym (numbers_split fs (repeated k fs) bs) ∙ (rw q at e) in
    let u = came (numbers_in fs bs) _ d in
    let v = came (numbers_in (repeated k fs) u.left) _ u.second in
    let x : drop j xs ≡ u.value ++ v.value = cc in
    let y : v.left ≡ rest = cc in
    row_put fs k bs xs j u.first v.first x y

-- none is left
pub record NoneAhead (fs : List Field) (bs xs : List ℕ) (j : ℕ) (rest : List ℕ) : Type 0 where
  pub numbers : (d : ℕ) → get_or xs (j + d) 0 ≡ 0
  pub others : numbers_in (repeated 0 fs) bs ≡ got (drop (j + length fs) xs) rest

pub none_ahead : (fs : List Field) (m : ℕ) (bs xs : List ℕ) (j : ℕ) (rest : List ℕ) → m ≡ 0 → numbers_in (repeated m fs) bs ≡ got (drop j xs) rest → NoneAhead fs bs xs j rest
unfolding numbers_in
none_ahead fs m bs xs j rest q e =
    let f : got [] bs ≡ got (drop j xs) rest = rw q at e in
    let x : drop j xs ≡ [] = cc in
    let y : bs ≡ rest = cc in
    record {
      numbers = λ d. sym (get_or-drop j xs d 0) ∙ ap (λ (l : List ℕ). get_or l d 0) x;
      others = ap (got []) y ∙ ap (λ (l : List ℕ). got l rest) (sym (sym (drop-drop (length fs) j xs) ∙ ap (drop (length fs)) x ∙ drop_of_length-le [] {i = length fs} (omega arith)));
    }

-- a row of one field
pub field_of : (f : Field) (bs : List ℕ) {v : ℕ} {rest : List ℕ} → numbers_in (f ∷ []) bs ≡ got (v ∷ []) rest → field_in f bs ≡ got v rest
unfolding numbers_in
field_of f bs {v} {rest} e =
    let d = came (field_in f bs) _ e in
    let x : d.value ≡ v = cc in
    let y : d.left ≡ rest = cc in
    d.first ∙ same x y
  where
    same : {u v : ℕ} {left rest : List ℕ} → u ≡ v → left ≡ rest → got u left ≡ got v rest
    same x y = rw (x, y)
