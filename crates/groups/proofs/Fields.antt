-- A field and a row of fields, both ways: numbers in their fields are read back, and where they were read they stand. `read-..` reads back what
-- was written; `..-read` says that what was read is what would be written.
-- Assumes nothing.
use Prim.Native.Nat.{ℕ, suc, ◌≤◌}
use mathlib.Core.Path.{◌≡◌, refl, sym, ap, ◌∙◌}
use mathlib.Core.Bool.{◌&&◌}
use mathlib.Core.List.{List, [], ◌∷◌, ◌++◌, append_assoc}
use lib.Dec.{leb}
use borrow.Author.Tests.{leb-true, le-leb}
use Rattle.slices.specs.Lists.{Bytes}
use Rattle.slices.proofs.Bools.{both}
use Rattle.groups.specs.Groups.{groups_of, row_of, Front, some, none, number_in}
use Rattle.groups.specs.Fields.{Read, got, and_then, Field, judged, field_in, numbers_in}
use Rattle.groups.proofs.Groups.{read_number, number_read}
use Rattle.groups.proofs.Readings.{not_got, came, chosen, then_then, then_same, then_got}

-- ---- a field

pub read_field : (f : Field) (v : ℕ) (rest : List ℕ) → f.low ≤ v → v ≤ f.high → field_in f (groups_of v ++ rest) ≡ got v rest
unfolding field_in
read_field f v rest l h = rw (read_number v rest, le-leb f.low v l, le-leb v f.high h)

-- what is in its field stood in front
pub record Judged (f : Field) (r : Front) (v : ℕ) (rest : List ℕ) : Type 0 where
  pub low : f.low ≤ v
  pub high : v ≤ f.high
  pub stands : r ≡ some v rest

judged_put : {f : Field} {u v : ℕ} {left rest : List ℕ} → f.low ≤ u → u ≤ f.high → u ≡ v → left ≡ rest → Judged f (some u left) v rest
judged_put l h x y = record { low = rw x at l; high = rw x at h; stands = rw (x, y) }

judged_got : (f : Field) (bs : List ℕ) (r : Front) {v : ℕ} {rest : List ℕ} → judged f bs r ≡ got v rest → Judged f r v rest
judged_got f bs none e = not_got e
judged_got f bs (some u left) {v} {rest} e =
    let d = chosen (leb f.low u && leb u f.high) 31 bs e in
    let t = both (leb f.low u) (leb u f.high) d.0 in
    let q : got u left ≡ got v rest = d.1 in
    judged_put (leb-true f.low u t.0) (leb-true u f.high t.1) (cc) (cc)

-- whatever the bytes are
pub field_fits : (f : Field) (bs : List ℕ) {v : ℕ} {rest : List ℕ} → field_in f bs ≡ got v rest → Judged f (number_in bs) v rest
unfolding field_in
field_fits f bs e = judged_got f bs (number_in bs) e

pub field_read : (f : Field) (bs : List ℕ) → Bytes bs → {v : ℕ} {rest : List ℕ} → field_in f bs ≡ got v rest → bs ≡ groups_of v ++ rest
field_read f bs ok e = number_read bs ok (field_fits f bs e).stands

-- ---- a row of fields

-- numbers that are each in their field
abbrev pub InFields : List Field → List ℕ → Type 0
InFields [] [] = Unit {0}
InFields [] (v ∷ vs) = ⊥
InFields (f ∷ fs) [] = ⊥
InFields (f ∷ fs) (v ∷ vs) = (f.low ≤ v) × (v ≤ f.high) × InFields fs vs

pub reads_row : (fs : List Field) (vs rest : List ℕ) → InFields fs vs → numbers_in fs (row_of vs ++ rest) ≡ got vs rest
unfolding numbers_in row_of
reads_row [] [] rest h = refl
reads_row (f ∷ fs) (v ∷ vs) rest h =
    rw (append_assoc (groups_of v) (row_of vs) rest, read_field f v (row_of vs ++ rest) h.0 h.1, reads_row fs vs rest h.2)
reads_row [] (v ∷ vs) rest h = absurd h
reads_row (f ∷ fs) [] rest h = absurd h

pub row_append : (xs ys : List ℕ) → row_of (xs ++ ys) ≡ row_of xs ++ row_of ys
unfolding row_of
row_append [] ys = refl
row_append (x ∷ xs) ys = ap (λ (l : List ℕ). groups_of x ++ l) (row_append xs ys) ∙ sym (append_assoc (groups_of x) (row_of xs) (row_of ys))

-- bytes behind bytes
pub bytes_behind : (xs ys : List ℕ) → Bytes (xs ++ ys) → Bytes ys
bytes_behind [] ys ok = ok
bytes_behind (x ∷ xs) ys ok = bytes_behind xs ys (λ i. ok (suc i))

fit_none : {vs : List ℕ} → [] ≡ vs → InFields [] vs
fit_none x = rw (← x) (record {})

fit_first : (f : Field) (fs : List Field) {v : ℕ} {us vs : List ℕ} → f.low ≤ v → v ≤ f.high → InFields fs us → v ∷ us ≡ vs → InFields (f ∷ fs) vs
fit_first f fs l h r x = rw (← x) (l, h, r)

-- whatever the bytes are
pub row_fits : (fs : List Field) (bs : List ℕ) {vs rest : List ℕ} → numbers_in fs bs ≡ got vs rest → InFields fs vs
unfolding numbers_in
row_fits [] bs {vs} {rest} e = fit_none {vs = vs} (cc)
row_fits (f ∷ fs) bs {vs} {rest} e =
    let d = came (field_in f bs) _ e in
    let a = field_fits f bs d.first in
    let r = came (numbers_in fs d.left) _ d.second in
    fit_first f fs a.low a.high (row_fits fs d.left r.first) (let x : d.value ∷ r.value ≡ vs = cc in x)

row_none : {bs vs rest : List ℕ} → [] ≡ vs → bs ≡ rest → bs ≡ row_of vs ++ rest
unfolding row_of
row_none x y = rw (← x, y)

row_first : {bs left us vs rest last : List ℕ} {v : ℕ} → bs ≡ groups_of v ++ left → left ≡ row_of us ++ rest → v ∷ us ≡ vs → rest ≡ last → bs ≡ row_of vs ++ last
unfolding row_of
row_first {us = us} {rest = rest} {v = v} a w x y =
    a ∙ rw (← x, ← y, append_assoc (groups_of v) (row_of us) rest) (ap (λ (l : List ℕ). groups_of v ++ l) w)

pub row_read : (fs : List Field) (bs : List ℕ) → Bytes bs → {vs rest : List ℕ} → numbers_in fs bs ≡ got vs rest → bs ≡ row_of vs ++ rest
unfolding numbers_in
row_read [] bs ok {vs} {rest} e = row_none (cc) (cc)
row_read (f ∷ fs) bs ok {vs} {rest} e =
    let d = came (field_in f bs) _ e in
    let a = field_read f bs ok d.first in
    let r = came (numbers_in fs d.left) _ d.second in
    let w = row_read fs d.left (bytes_behind (groups_of d.value) d.left (rw a at ok)) r.first in
    row_first a w (cc) (cc)

-- ---- a row in two parts

pub numbers_split : (fs gs : List Field) (bs : List ℕ)
    → numbers_in (fs ++ gs) bs ≡ and_then (numbers_in fs bs) (λ xs rest. and_then (numbers_in gs rest) (λ ys left. got (xs ++ ys) left))
unfolding numbers_in
numbers_split [] gs bs = sym (then_got (numbers_in gs bs))
numbers_split (f ∷ fs) gs bs =
    then_same (field_in f bs) _ _ (λ v rest.
    ap (λ (r : Read (List ℕ)). and_then r (λ vs left. got (v ∷ vs) left)) (numbers_split fs gs rest)
    ∙ then_then (numbers_in fs rest) _ _
    ∙ then_same (numbers_in fs rest) _ _ (λ xs left. then_then (numbers_in gs left) _ _)
    ∙ sym (then_then (numbers_in fs rest) (λ vs left. got (v ∷ vs) left) (λ xs left. and_then (numbers_in gs left) (λ ys l. got (xs ++ ys) l))))
    ∙ sym (then_then (field_in f bs) (λ v rest. and_then (numbers_in fs rest) (λ vs left. got (v ∷ vs) left)) (λ xs left. and_then (numbers_in gs left) (λ ys l. got (xs ++ ys) l)))
