-- The words of the drawing: what is read back from a cell's word, and the weight that falls whenever a demand is not met.
-- Assumes nothing.
use Prim.Native.Nat.{ℕ, zero, suc, ◌+◌, ◌*◌, ◌-◌, ◌/◌, ◌%◌, ◌≤◌, ◌<◌}
use native.Mathlib.Nat.{pos_of_ne-zero}
use native.Mathlib.Omega.{arith}
use mathlib.Core.Path.{◌≡◌, refl, ap, ◌∙◌}
use mathlib.Core.List.{List, [], ◌∷◌}
use mathlib.Core.Bool.{Bool, true, false, not, cond, ◌&&◌, ◌||◌}
use lib.ListN.{length, get_or, set}
use lib.Dec.{eqb, leb, ltb}
use borrow.Author.Tests.{ltb-false, ltb-true, leb-true, leb-false, lt-ltb}
use Rattle.slices.proofs.Bools.{by_test, both}
use Rattle.drawings.specs.declared.Cell.{Cell}
use Rattle.drawings.specs.internal.Cells.{bit, packed, seen, need_in, depth_in, entry_in, mark_in, cell_in, larger, joined, merged, has, weight, total}

-- ---- what is read back from a word

need_read : (n d e v : ℕ) → n < 256 → (n + 256 * d + 65536 * e + 16777216 * v + 33554432) % 256 ≡ n
need_read n d e v h = omega arith

depth_read : (n d e v : ℕ) → n < 256 → d < 256 → (n + 256 * d + 65536 * e + 16777216 * v + 33554432) / 256 % 256 ≡ d
depth_read n d e v h k = omega arith

entry_read : (n d e v : ℕ) → n < 256 → d < 256 → e < 256 → (n + 256 * d + 65536 * e + 16777216 * v + 33554432) / 65536 % 256 ≡ e
entry_read n d e v h k l = omega arith

mark_read : (n d e v : ℕ) → n < 256 → d < 256 → e < 256 → v < 2 → (n + 256 * d + 65536 * e + 16777216 * v + 33554432) / 16777216 % 2 ≡ v
mark_read n d e v h k l m = omega arith

pub bit_two : (v : Bool) → bit v < 2
bit_two true = omega arith
bit_two false = omega arith

pub bit_read : (v : Bool) → eqb (bit v) 1 ≡ v
bit_read true = refl
bit_read false = refl

byte : (x : ℕ) → x % 256 < 256
byte x = omega arith

pub small : (x : ℕ) → x < 256 → x % 256 ≡ x
small x h = omega arith

-- a cell whose numbers are bytes
pub record Small (c : Cell) : Type 0 where
  pub entry_small : c.entry < 256
  pub depth_small : c.depth < 256
  pub need_small : c.need < 256

-- the remainders of a cell's numbers are read back, whatever the cell
need_back : (c : Cell) → need_in (packed c) ≡ c.need % 256
unfolding packed need_in
need_back c = need_read (c.need % 256) (c.depth % 256) (c.entry % 256) (bit c.mark) (byte c.need)

mark_back : (c : Cell) → mark_in (packed c) ≡ c.mark
unfolding packed mark_in
mark_back c =
    rw (mark_read (c.need % 256) (c.depth % 256) (c.entry % 256) (bit c.mark) (byte c.need) (byte c.depth) (byte c.entry) (bit_two c.mark))
    (bit_read c.mark)

depth_back : (c : Cell) → depth_in (packed c) ≡ c.depth % 256
unfolding packed depth_in
depth_back c = depth_read (c.need % 256) (c.depth % 256) (c.entry % 256) (bit c.mark) (byte c.need) (byte c.depth)

entry_back : (c : Cell) → entry_in (packed c) ≡ c.entry % 256
unfolding packed entry_in
entry_back c = entry_read (c.need % 256) (c.depth % 256) (c.entry % 256) (bit c.mark) (byte c.need) (byte c.depth) (byte c.entry)

pub round : (c : Cell) → Small c → cell_in (packed c) ≡ c
round c s =
    rw (
      need_back c,
      depth_back c,
      entry_back c,
      mark_back c,
      small c.need s.need_small,
      small c.depth s.depth_small,
      small c.entry s.entry_small,
    )

pub packed_seen : (c : Cell) → seen (packed c) ≡ true
unfolding packed seen
packed_seen c = lt-ltb 0 (c.need % 256 + 256 * (c.depth % 256) + 65536 * (c.entry % 256) + 16777216 * bit c.mark + 33554432) (omega arith)

pub zero_unseen : seen 0 ≡ false
unfolding seen
zero_unseen = refl

pub unseen_zero : (w : ℕ) → seen w ≡ false → w ≡ 0
unfolding seen
unseen_zero w e = let h = ltb-false 0 w e in omega arith

pub word_seen : (w : ℕ) → (w ≡ 0 → ⊥) → seen w ≡ true
unfolding seen
word_seen w h = lt-ltb 0 w (pos_of_ne-zero h)

pub need_low : (w : ℕ) → need_in w < 256
unfolding need_in
need_low w = byte w

pub depth_low : (w : ℕ) → depth_in w < 256
unfolding depth_in
depth_low w = byte (w / 256)

pub entry_low : (w : ℕ) → entry_in w < 256
unfolding entry_in
entry_low w = byte (w / 65536)

-- ---- the weight of a word

weight_seen : (w : ℕ) → seen w ≡ true → weight w ≡ bit (mark_in w) + (255 - need_in w)
unfolding weight
weight_seen w e = rw e

weight_unseen : (w : ℕ) → seen w ≡ false → weight w ≡ 257
unfolding weight
weight_unseen w e = rw e

weight_packed : (c : Cell) → c.need < 256 → weight (packed c) ≡ bit c.mark + (255 - c.need)
weight_packed c h =
    weight_seen (packed c) (packed_seen c) ∙ ap (λ (v : Bool). bit v + (255 - need_in (packed c))) (mark_back c)
    ∙ ap (λ (n : ℕ). bit c.mark + (255 - n)) (need_back c ∙ small c.need h)

larger_left : (x y : ℕ) → x ≤ larger x y
larger_left x y = by_test (ltb x y) (λ e. rw e (let h = ltb-true x y e in omega arith)) (λ e. rw e (omega arith))

larger_right : (x y : ℕ) → y ≤ larger x y
larger_right x y = by_test (ltb x y) (λ e. rw e (omega arith)) (λ e. rw e (ltb-false x y e))

pub larger_within : (x y z : ℕ) → x ≤ z → y ≤ z → larger x y ≤ z
larger_within x y z h k = by_test (ltb x y) (λ e. rw e k) (λ e. rw e h)

-- what is not met: a mark that must go, or a larger need
unmet_falls :
    (a b : Bool) (x y : ℕ) → x < 256 → y < 256 → (not a || b) && leb y x ≡ false
    → bit (a && b) + (255 - larger x y) < bit a + (255 - x)
unmet_falls true true x y h k e = let l = leb-false y x e in let q = larger_right x y in let b = larger_within x y 255 (omega arith) (omega arith) in omega arith
unmet_falls true false x y h k e = let q = larger_left x y in omega arith
unmet_falls false b x y h k e = let l = leb-false y x e in let q = larger_right x y in let b' = larger_within x y 255 (omega arith) (omega arith) in omega arith

pub merged_is_seen : (w : ℕ) (c : Cell) → seen (merged w c) ≡ true
unfolding merged
merged_is_seen w c = packed_seen (cond (seen w) (joined (cell_in w) c) c)

pub merged_unseen : (w : ℕ) (c : Cell) → seen w ≡ false → merged w c ≡ packed c
unfolding merged
merged_unseen w c e = rw e

pub merged_seen : (w : ℕ) (c : Cell) → seen w ≡ true → merged w c ≡ packed (joined (cell_in w) c)
unfolding merged
merged_seen w c e = rw e

pub merged_falls : (w : ℕ) (c : Cell) → c.need < 256 → has w c ≡ false → weight (merged w c) < weight w
unfolding has
merged_falls w c h e =
    by_test (seen w)
    (λ q.
    let f = unmet_falls (mark_in w) c.mark (need_in w) c.need (need_low w) h (rw q at e) in
    let j : larger (need_in w) c.need ≤ 255 = larger_within (need_in w) c.need 255 (let l = need_low w in omega arith) (omega arith) in
    rw (merged_seen w c q, weight_packed (joined (cell_in w) c) (omega arith), weight_seen w q) f)
    (λ q. rw (merged_unseen w c q, weight_packed c h, weight_unseen w q) (let b = bit_two c.mark in omega arith))

-- what a word tells that has what is asked of it
pub record Has (w : ℕ) (c : Cell) : Type 0 where
  pub is_seen : seen w ≡ true
  pub may_mark : mark_in w ≡ true → c.mark ≡ true
  pub enough : c.need ≤ need_in w

only_if : (a b : Bool) → not a || b ≡ true → a ≡ true → b ≡ true
only_if true b h q = h
only_if false b h q = cc

pub has_is : (w : ℕ) (c : Cell) → has w c ≡ true → Has w c
unfolding has
has_is w c e =
    let a = both (seen w) _ e in
    let b = both (not (mark_in w) || c.mark) _ a.1 in
    record { is_seen = a.0; may_mark = only_if (mark_in w) c.mark b.0; enough = leb-true _ _ b.1 }

-- ---- the weight of a list of words

pub total_falls : (ws : List ℕ) (i v : ℕ) → i < length ws → weight v < weight (get_or ws i 0) → total (set ws i v) < total ws
total_falls [] i v h l = absurd (omega arith)
total_falls (w ∷ ws) zero v h l = omega arith
total_falls (w ∷ ws) (suc i) v h l = let r = total_falls ws i v (omega arith) l in omega arith
