-- The loop that numbers the routines: the count is the rank of the address reached, and the table is filled up to it.
-- Assumes nothing.
use Prim.Native.Nat.{ℕ, zero, suc, ◌+◌, ◌%◌, ◌≤◌, ◌<◌}
use native.Mathlib.Omega.{arith}
use native.Mathlib.Numerals.{add-one}
use mathlib.Core.Path.{◌≡◌, refl, sym, ap, ◌∙◌}
use mathlib.Core.List.{List}
use lib.ListN.{length, get_or, set}
use Rattle.slices.proofs.Bools.{by_test}
use Rattle.drawings.specs.internal.Drafts.{is_entry, rank}
use Rattle.drawings.proofs.DraftParts.{rank_zero, rank_step, rank_same}
use Rattle.drafting.specs.internal.Writing.{numbers_from, numbers_of, rank_after}
use Rattle.slices.proofs.Filling.{Filled, fill_start, fill_put, fill_end}

-- ---- the table
numbers_long : (ws : List ℕ) (n i : ℕ) → length (numbers_from ws i n) ≡ n
unfolding numbers_from
numbers_long ws zero i = refl
numbers_long ws (suc n) i = let r = numbers_long ws n (suc i) in omega arith

number_in : (ws : List ℕ) (n i j k : ℕ) → j < n → k ≡ i + j → get_or (numbers_from ws i n) j 0 ≡ rank ws k % 64
unfolding numbers_from
number_in ws zero i j k h q = absurd (omega arith)
number_in ws (suc n) i zero k h q = let e : k ≡ i = omega arith in rw e
number_in ws (suc n) i (suc j) k h q = number_in ws n (suc i) j k (omega arith) (omega arith)

pub number_at : (ws : List ℕ) (a : ℕ) → a < 256 → get_or (numbers_of ws) a 0 ≡ rank ws a % 64
number_at ws a h = number_in ws 256 0 a a h (omega arith)

-- ---- the count
pub rank_behind : (ws : List ℕ) (a n : ℕ) → n ≡ rank ws a → rank_after ws a n ≡ rank ws (a + 1)
unfolding rank_after
rank_behind ws a n q =
    by_test (is_entry ws a)
    (λ e. rw (e, add-one a, rank_step ws a e) (omega arith))
    (λ e. rw (e, add-one a, rank_same ws a e) q)

after_few : (ws : List ℕ) (a n : ℕ) → rank_after ws a n ≤ n + 1
unfolding rank_after
after_few ws a n = by_test (is_entry ws a) (λ e. rw e (omega arith)) (λ e. rw e (omega arith))

-- ---- the loop
pub record Numbering (ws out : List ℕ) (n a : ℕ) : Type 0 where
  pub few : n ≤ a
  pub is_rank : n ≡ rank ws a
  pub filled : Filled (numbers_of ws) out a

module _ {ws out : List ℕ} where
  pub numbers_start : length out ≡ 256 → Numbering ws out 0 0
  numbers_start h = record { few = omega arith; is_rank = sym (rank_zero ws); filled = fill_start (h ∙ sym (numbers_long ws 256 0)) }

  module _ {n a : ℕ} (s : Numbering ws out n a) where
    pub numbers_size : length out ≡ 256
    numbers_size = s.filled.long ∙ numbers_long ws 256 0

    pub numbers_next : {n' : ℕ} → a < 256 → n' ≡ rank_after ws a n → Numbering ws (set out a (n % 64)) n' (a + 1)
    numbers_next {n'} h e =
        let l = numbers_long ws 256 0 in
        let f = s.few in
        let k = after_few ws a n in
        record {
          few = omega arith;
          is_rank = e ∙ rank_behind ws a n s.is_rank;
          filled = fill_put s.filled (omega arith) (ap (λ (x : ℕ). x % 64) s.is_rank ∙ sym (number_at ws a h));
        }

    pub numbers_end : 256 ≤ a → (n ≡ rank ws 256) × (n ≤ 256) × (out ≡ numbers_of ws)
    numbers_end h =
        let l = numbers_long ws 256 0 in
        let w = s.filled.within in
        let f = s.few in
        let e : a ≡ 256 = omega arith in
        (s.is_rank ∙ ap (rank ws) e, omega arith, fill_end s.filled (omega arith))
