-- The number at a place by the place of its last group: cut off, not shortest, over its field, or read.
-- Assumes nothing.
use Prim.Native.Nat.{ℕ, zero, suc, ◌+◌, ◌*◌, ◌-◌, ◌%◌, ◌≤◌, ◌<◌}
use native.Mathlib.Omega.{arith}
use native.Mathlib.Numerals.{add-one}
use mathlib.Core.Path.{◌≡◌, refl, sym, ap, ◌∙◌}
use mathlib.Core.Bool.{Bool, true, false, ◌&&◌, ◌||◌, and-false}
use mathlib.Core.List.{List, [], ◌∷◌}
use lib.ListN.{length, get_or, drop, length-drop, drop_of_length-le}
use lib.Seq.{drop-cons, drop-drop, get_or-drop}
use lib.Dec.{eqb, leb, ltb}
use borrow.Author.Tests.{ltb-true, ltb-false, lt-ltb, le-ltb, eqb-true, eq-eqb, ne_eqb, le-leb, lt-leb}
use Rattle.std.specs.Prelude.{Some, None, Result, Ok, Err}
use Rattle.slices.proofs.Bools.{by_test, both, neither}
use Rattle.groups.specs.Faults.{fault_number}
use Rattle.groups.specs.Fields.{Read, got, refused, Field, field_in}
use Rattle.groups.specs.Groups.{some, none, number_in}
use Rattle.groups.specs.internal.Places.{last_of, value_in, EndsAt, read_by, place_of, ReadsAs}
use Rattle.groups.specs.declared.FileFault.{FileFault}
use Rattle.groups.specs.declared.FileFault.TheVariants.{Malformed, OutOfBounds}
use Rattle.groups.specs.declared.Refusal.{Refusal}

-- ---- the search for the last group

last_here : (bs : List ℕ) (i : ℕ) → i < length bs → get_or bs i 0 < 128 → last_of (drop i bs) ≡ 0
unfolding last_of
last_here bs i h l = rw (drop-cons bs i 0 h, lt-ltb (get_or bs i 0) 128 l)

last_next : (bs : List ℕ) (i : ℕ) → i < length bs → 128 ≤ get_or bs i 0 → last_of (drop i bs) ≡ suc (last_of (drop (i + 1) bs))
unfolding last_of
last_next bs i h l = rw (drop-cons bs i 0 h, le-ltb (get_or bs i 0) 128 l, add-one i)

last_none : (bs : List ℕ) (i : ℕ) → length bs ≤ i → last_of (drop i bs) ≡ 0
unfolding last_of
last_none bs i h = rw (drop_of_length-le bs h)

-- the groups from `at` up to i are not the last
pub record Passing (bs : List ℕ) (at i : ℕ) : Type 0 where
  pub from : at ≤ i
  pub whole : at + last_of (drop at bs) ≡ i + last_of (drop i bs)

pub pass_here : {bs : List ℕ} {at i : ℕ} → Passing bs at i → i < length bs → get_or bs i 0 < 128 → EndsAt bs at (Some i)
pass_here {bs} {at} {i} p h l = let w = p.whole in let z = last_here bs i h l in (omega arith, h)

pub pass_next : {bs : List ℕ} {at i : ℕ} → Passing bs at i → i < length bs → 128 ≤ get_or bs i 0 → Passing bs at (i + 1)
pass_next {bs} {at} {i} p h l =
    let f = p.from in
    let w = p.whole in
    let z = last_next bs i h l in
    record { from = omega arith; whole = omega arith }

pub pass_ends : {bs : List ℕ} {at i : ℕ} → Passing bs at i → length bs ≤ i → EndsAt bs at None
pass_ends {bs} {at} {i} p h = let w = p.whole in let z = last_none bs i h in omega arith

-- ---- its value

pub value_last : (bs : List ℕ) (at : ℕ) → at < length bs → last_of (drop at bs) ≡ 0 → value_in (drop at bs) ≡ get_or bs at 0 % 128
unfolding value_in
value_last bs at h e =
    by_test (ltb (get_or bs at 0) 128)
    (λ t. let l = ltb-true (get_or bs at 0) 128 t in rw (drop-cons bs at 0 h, t) (omega arith))
    (λ t. let z = last_next bs at h (ltb-false (get_or bs at 0) 128 t) in absurd (omega arith))

pub value_more : (bs : List ℕ) (at : ℕ) → at < length bs → 0 < last_of (drop at bs)
    → (value_in (drop at bs) ≡ get_or bs at 0 % 128 + 128 * value_in (drop (at + 1) bs)) × (last_of (drop at bs) ≡ suc (last_of (drop (at + 1) bs)))
unfolding value_in
value_more bs at h e =
    by_test (ltb (get_or bs at 0) 128)
    (λ t. let z = last_here bs at h (ltb-true (get_or bs at 0) 128 t) in absurd (omega arith))
    (λ t. (rw (drop-cons bs at 0 h, t, add-one at), last_next bs at h (ltb-false (get_or bs at 0) 128 t)))

-- 128, as often as groups stand before the last
abbrev weight : ℕ → ℕ
weight zero = 1
weight (suc k) = 128 * weight k

weight_some : (k : ℕ) → 1 ≤ weight k
weight_some zero = omega arith
weight_some (suc k) = let h = weight_some k in omega arith

weight_large : (k : ℕ) → 2 < k → 2097152 ≤ weight k
weight_large zero l = absurd (omega arith)
weight_large (suc zero) l = absurd (omega arith)
weight_large (suc (suc zero)) l = absurd (omega arith)
weight_large (suc (suc (suc k))) l = let h = weight_some k in omega arith

value_weight : (bs : List ℕ) → last_of bs < length bs → (get_or bs (last_of bs) 0 ≡ 0 → ⊥) → weight (last_of bs) ≤ value_in bs
unfolding last_of value_in
value_weight [] h z = absurd (omega arith)
value_weight (b ∷ bs) h z =
    by_test (ltb b 128)
    (λ t. let n : b ≡ 0 → ⊥ = rw t at z in rw t (omega arith))
    (λ t.
    let k : suc (last_of bs) < suc (length bs) = rw t at h in
    let n : get_or bs (last_of bs) 0 ≡ 0 → ⊥ = rw t at z in
    let r = value_weight bs (omega arith) n in
    rw t (omega arith))

-- ---- the number in front

number_cut : (bs : List ℕ) → length bs ≤ last_of bs → number_in bs ≡ none
unfolding last_of number_in
number_cut [] h = refl
number_cut (b ∷ bs) h =
    by_test (ltb b 128)
    (λ t. let k : suc (length bs) ≤ 0 = rw t at h in absurd (omega arith))
    (λ t. let k : suc (length bs) ≤ suc (last_of bs) = rw t at h in rw (t, number_cut bs (omega arith)))

number_whole : (bs : List ℕ) → last_of bs < length bs → (0 < last_of bs → get_or bs (last_of bs) 0 ≡ 0 → ⊥) → number_in bs ≡ some (value_in bs) (drop (suc (last_of bs)) bs)
unfolding last_of number_in value_in
number_whole [] h z = absurd (omega arith)
number_whole (b ∷ bs) h z =
    by_test (ltb b 128)
    (λ t. rw t)
    (λ t.
    let k : suc (last_of bs) < suc (length bs) = rw t at h in
    let n : 0 < suc (last_of bs) → get_or bs (last_of bs) 0 ≡ 0 → ⊥ = rw t at z in
    let v = value_weight bs (omega arith) (n (omega arith)) in
    let s = weight_some (last_of bs) in
    rw (t, number_whole bs (omega arith) (λ p. n (omega arith)), ne_eqb (value_in bs) 0 (λ q. omega arith)))

-- a 0 behind a group
number_padded : (bs : List ℕ) → last_of bs < length bs → 0 < last_of bs → get_or bs (last_of bs) 0 ≡ 0 → number_in bs ≡ none
unfolding last_of number_in
number_padded [] h l z = absurd (omega arith)
number_padded (b ∷ bs) h l z =
    by_test (ltb b 128)
    (λ t. let k : 0 < 0 = rw t at l in absurd (omega arith))
    (λ t.
    let k : suc (last_of bs) < suc (length bs) = rw t at h in
    let n : get_or bs (last_of bs) 0 ≡ 0 = rw t at z in
    by_test (ltb 0 (last_of bs))
    (λ s. rw (t, number_padded bs (omega arith) (ltb-true 0 (last_of bs) s) n))
    (λ s.
    let e : last_of bs ≡ 0 = omega (arith, ltb-false 0 (last_of bs) s) in
    rw (t, number_whole bs (omega arith) (λ p. absurd (omega arith)), zero_value bs (omega arith) e n)))
  where
    zero_value : (cs : List ℕ) → 0 < length cs → last_of cs ≡ 0 → get_or cs (last_of cs) 0 ≡ 0 → value_in cs ≡ 0
    zero_value cs h e n = value_last cs 0 h e ∙ (let q : get_or cs 0 0 ≡ 0 = rw e at n in rw q)

-- ---- the number at a place

out_of : (low high v : ℕ) → ltb v low || ltb high v ≡ true → leb low v && leb v high ≡ false
out_of low high v t =
    by_test (ltb v low)
    (λ e. rw (lt-leb low v (ltb-true v low e)))
    (λ e. let k : ltb high v ≡ true = rw e at t in rw (lt-leb v high (ltb-true high v k), and-false (leb low v)))

in_it : (low high v : ℕ) → ltb v low || ltb high v ≡ false → leb low v && leb v high ≡ true
in_it low high v t =
    let u = neither (ltb v low) (ltb high v) t in
    rw (le-leb low v (ltb-false v low u.0), le-leb v high (ltb-false high v u.1))

-- `last` is the place of its last group
abbrev pub Last : List ℕ → ℕ → ℕ → Type 0
Last file at last = last ≡ at + last_of (drop at file)

-- its value, by the groups that it has
pub one_group : (file : List ℕ) (at : ℕ) {last top : ℕ} → Last file at last → last < length file → last ≡ at → top ≡ get_or file last 0 % 128
    → top ≡ value_in (drop at file)
one_group file at {last} {top} p h e t =
    t ∙ ap (λ (i : ℕ). get_or file i 0 % 128) e ∙ sym (value_last file at (omega arith) (omega arith))

pub two_groups : (file : List ℕ) (at : ℕ) {last top first : ℕ} → Last file at last → last < length file → last ≡ at + 1 → top ≡ get_or file last 0 % 128
    → first ≡ get_or file at 0 % 128 → first + 128 * top ≡ value_in (drop at file)
two_groups file at {last} {top} {first} p h e t g =
    let m = value_more file at (omega arith) (omega arith) in
    let w = m.0 in
    let k = m.1 in
    let v = one_group file (at + 1) {last = last} {top = top} (omega arith) h e t in
    omega arith

pub three_groups : (file : List ℕ) (at : ℕ) {last top first second : ℕ} → Last file at last → last < length file → last ≤ at + 2 → (last ≡ at → ⊥) → (last ≡ at + 1 → ⊥)
    → top ≡ get_or file last 0 % 128 → first ≡ get_or file at 0 % 128 → second ≡ get_or file (at + 1) 0 % 128 → first + 128 * (second + 128 * top) ≡ value_in (drop at file)
three_groups file at {last} {top} {first} {second} p h l n o t g s =
    let m = value_more file at (omega arith) (omega arith) in
    let w = m.0 in
    let k = m.1 in
    let v = two_groups file (at + 1) {last = last} {top = top} {first = second} (omega arith) h (omega arith) t s in
    omega arith

-- an answer of `read_field`
abbrev Reads : (f : Field) (file : List ℕ) (at : ℕ) → Result (ℕ × ℕ) Refusal → Type 0
Reads f file at r = ReadsAs file at (field_in f (drop at file)) (read_by file r) (place_of r)

module _ (f : Field) (file : List ℕ) (at last : ℕ) (is_last : Last file at last) where
  -- a refusal is where the number begins
  refuses : (q : FileFault) → field_in f (drop at file) ≡ refused (fault_number q) (drop at file) → Reads f file at (Err (record { fault = q; at = at }))
  refuses q e = record { reads = sym e; within = λ h. h }

  abbrev malformed : Refusal
  malformed = record { fault = Malformed; at = at }

  abbrev out_of_bounds : Refusal
  out_of_bounds = record { fault = OutOfBounds; at = at }

  pub read_cut : length file ≤ last → Reads f file at (Err malformed)
  unfolding field_in
  read_cut h =
      let l = length-drop at file in
      refuses Malformed (rw (number_cut (drop at file) (omega arith)))

  top_byte : get_or (drop at file) (last_of (drop at file)) 0 ≡ get_or file last 0
  top_byte = get_or-drop at file (last_of (drop at file)) 0 ∙ ap (λ (i : ℕ). get_or file i 0) (sym is_last)

  inside : last < length file → last_of (drop at file) < length (drop at file)
  inside h = let l = length-drop at file in omega arith

  pub read_padded : last < length file → at < last → get_or file last 0 ≡ 0 → Reads f file at (Err malformed)
  unfolding field_in
  read_padded h l z = refuses Malformed (rw (number_padded (drop at file) (inside h) (omega arith) (top_byte ∙ z)))

  module _ (h : last < length file) (z : at < last → get_or file last 0 ≡ 0 → ⊥) where
    number_here : number_in (drop at file) ≡ some (value_in (drop at file)) (drop (last + 1) file)
    number_here =
        let behind : at + suc (last_of (drop at file)) ≡ last + 1 = omega arith in
        number_whole (drop at file) (inside h) (λ l q. z (omega arith) (sym top_byte ∙ q))
        ∙ ap (some (value_in (drop at file))) (drop-drop (suc (last_of (drop at file))) at file ∙ ap (λ (i : ℕ). drop i file) behind)

    -- over three groups and in its shortest form: over every field
    pub read_long : 2 < last - at → f.high < 2097152 → Reads f file at (Err out_of_bounds)
    unfolding field_in
    read_long l b =
        let w = weight_large (last_of (drop at file)) (omega arith) in
        let v = value_weight (drop at file) (inside h) (λ q. z (omega arith) (sym top_byte ∙ q)) in
        refuses OutOfBounds (rw (number_here, lt-leb (value_in (drop at file)) f.high (omega arith), and-false (leb f.low (value_in (drop at file)))))

    module _ {v : ℕ} (e : v ≡ value_in (drop at file)) where
      pub read_other : ltb v f.low || ltb f.high v ≡ true → Reads f file at (Err out_of_bounds)
      unfolding field_in
      read_other t = refuses OutOfBounds (rw (number_here, ← e, out_of f.low f.high v t))

      pub read_good : ltb v f.low || ltb f.high v ≡ false → Reads f file at (Ok (v, last + 1))
      unfolding field_in
      read_good t = record { reads = rw (number_here, ← e, in_it f.low f.high v t); within = λ l. omega arith }

-- what the test for a 0 behind a group tells
pub not_padded : (at last b : ℕ) → ltb 0 (last - at) && eqb b 0 ≡ false → at < last → b ≡ 0 → ⊥
not_padded at last b t l e = let z : ◌≡◌ {A = Bool} true false = (rw (lt-ltb 0 (last - at) (omega arith), eq-eqb b 0 e) at t) in let q : ◌≡◌ {A = ℕ} 0 1 = cc in omega arith

pub padded : (at last b : ℕ) → ltb 0 (last - at) && eqb b 0 ≡ true → (at < last) × (b ≡ 0)
padded at last b t = let u = both (ltb 0 (last - at)) (eqb b 0) t in (omega (arith, ltb-true 0 (last - at) u.0), eqb-true b 0 u.1)

-- ---- an answer, by its case

module _ (file : List ℕ) (at : ℕ) {V : Type 0} {meant : Read V} {r : Result (V × ℕ) Refusal} where
  pub value_read : {v : V} {next : ℕ} → ReadsAs file at meant (read_by file r) (place_of r) → r ≡ Ok (v, next) → ReadsAs file at meant (got v (drop next file)) next
  value_read h e = rw e at h

  pub refusal_read : {f : Refusal} → ReadsAs file at meant (read_by file r) (place_of r) → r ≡ Err f
      → ReadsAs file at meant (refused (fault_number f.fault) (drop f.at file)) f.at
  refusal_read h e = rw e at h
