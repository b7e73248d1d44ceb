-- A part that was replaced is what was put there, and every part beside it is as it was.
-- Assumes nothing.
use mathlib.Core.Path.{◌≡◌, sym, ap, ◌∙◌}
use mathlib.Core.List.{List, ◌++◌, append_assoc}
use Prim.Native.Nat.{ℕ, ◌+◌, ◌-◌, ◌≤◌}
use native.Mathlib.Omega.{arith}
use lib.ListN.{length, take, drop, length-append, length-drop, take-append-drop}
use lib.Seq.{take-append-le, drop-append-le, drop-append-add, take_at, drop_at, drop-drop, length-take-le}
use Rattle.slices.specs.Parts.{part_of, replaced}

part_of_front : (p q : List ℕ) (a n : ℕ) → a + n ≤ length p → part_of (p ++ q) a n ≡ part_of p a n
part_of_front p q a n h =
    let h₁ : a ≤ length p = omega arith in
    let e : length (drop a p) ≡ length p - a = length-drop a p in
    let h₂ : n ≤ length (drop a p) = omega arith in
    rw (drop-append-le a p q h₁, take-append-le n (drop a p) q h₂)

pub length_part : (l : List ℕ) (a n : ℕ) → a + n ≤ length l → length (part_of l a n) ≡ n
length_part l a n h =
    let e : length (drop a l) ≡ length l - a = length-drop a l in
    length-take-le n (drop a l) (omega arith)

-- a part put back as it was
pub replaced_same : (l : List ℕ) (a n : ℕ) → replaced l a n (part_of l a n) ≡ l
unfolding replaced
replaced_same l a n = rw (take-append-drop n (drop a l), take-append-drop a l)

module _ (l : List ℕ) (a n : ℕ) (inserted : List ℕ) (fits : a + n ≤ length l) (long : length inserted ≡ n) where
  before_long : length (take a l) ≡ a
  before_long = length-take-le a l (omega arith)

  pub part_replaced : part_of (replaced l a n inserted) a n ≡ inserted
  unfolding replaced
  part_replaced = rw (drop_at (take a l) (inserted ++ drop n (drop a l)) a before_long, take_at inserted (drop n (drop a l)) n long)

  pub part_before : (b k : ℕ) → b + k ≤ a → part_of (replaced l a n inserted) b k ≡ part_of l b k
  unfolding replaced
  part_before b k h =
      let e : length (take a l) ≡ a = before_long in
      let h₁ : b + k ≤ length (take a l) = omega arith in
      part_of_front (take a l) (inserted ++ drop n (drop a l)) b k h₁
      ∙ sym (part_of_front (take a l) (drop a l) b k h₁)
      ∙ ap (λ (x : List ℕ). part_of x b k) (take-append-drop a l)

  head_long : length (take a l ++ inserted) ≡ a + n
  head_long =
      let e : length (take a l) ≡ a = before_long in
      length-append (take a l) inserted ∙ (omega arith)

  pub part_after : (b k : ℕ) → a + n ≤ b → part_of (replaced l a n inserted) b k ≡ part_of l b k
  unfolding replaced
  part_after b k h =
      let e : length (take a l ++ inserted) ≡ a + n = head_long in
      let j : ℕ = b - (a + n) in
      let q : b ≡ length (take a l ++ inserted) + j = omega arith in
      let r : a + (n + j) ≡ b = omega arith in
      ap (λ (x : List ℕ). part_of x b k) (sym (append_assoc (take a l) inserted (drop n (drop a l))))
      ∙ ap (λ (x : ℕ). part_of ((take a l ++ inserted) ++ drop n (drop a l)) x k) q
      ∙ ap (λ (x : List ℕ). take k x) (drop-append-add (take a l ++ inserted) (drop n (drop a l)) j ∙ drop-drop j n (drop a l) ∙ drop-drop (n + j) a l)
      ∙ ap (λ (x : ℕ). part_of l x k) r

  pub length_replaced : length (replaced l a n inserted) ≡ length l
  unfolding replaced
  length_replaced =
      let e : length (take a l) ≡ a = before_long in
      let f : length (drop n (drop a l)) ≡ length l - a - n = length-drop n (drop a l) ∙ ap (λ (x : ℕ). x - n) (length-drop a l) in
      let g : length (inserted ++ drop n (drop a l)) ≡ length inserted + length (drop n (drop a l)) = length-append inserted (drop n (drop a l)) in
      length-append (take a l) (inserted ++ drop n (drop a l)) ∙ omega arith
