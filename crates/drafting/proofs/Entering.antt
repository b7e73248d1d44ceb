-- The loop that writes the list: as many routines stand there as entries lie below the address reached, and zeros behind them.
-- Assumes nothing.
use Prim.Native.Nat.{ℕ, ◌+◌, ◌*◌, ◌≤◌, ◌<◌}
use native.Mathlib.Omega.{arith}
use mathlib.Core.Path.{◌≡◌, sym, ap, ◌∙◌}
use mathlib.Core.Logic.{◌≢◌}
use mathlib.Core.List.{List}
use mathlib.Core.Bool.{true, false}
use lib.Dec.{ltb}
use lib.ListN.{length, get_or, set, replicate, length-replicate, get_or-eq_default}
use lib.Seq.{ext_get_or, get_or-set_other}
use borrow.Author.Tests.{ltb-true, ltb-false}
use Rattle.slices.specs.Parts.{padded}
use Rattle.slices.proofs.Bools.{by_test}
use Rattle.slices.proofs.Filling.{Filled, fill_start, fill_two}
use Rattle.slices.proofs.Lookup.{zeros}
use Rattle.slices.proofs.Padded.{padded_at, padded_long}
use Rattle.drawings.specs.internal.Cells.{need_in}
use Rattle.drawings.specs.internal.Drafts.{is_entry, rank, list_of}
use Rattle.drawings.proofs.DraftParts.{rank_zero, rank_mono, rank_more, list_long, listed_at}
use Rattle.drafting.specs.internal.Writing.{rank_after, list_after}
use Rattle.drafting.proofs.Numbering.{rank_behind}

-- ---- the loop
pub record Entering (ws out : List ℕ) (n a : ℕ) : Type 0 where
  pub within : a ≤ 256
  pub is_rank : n ≡ rank ws a
  pub filled : Filled (padded 128 (list_of ws)) out (2 * n)
  pub rest : (j : ℕ) → 2 * n ≤ j → get_or out j 0 ≡ 0

pub enter_start : {ws out : List ℕ} → out ≡ replicate 128 0 → Entering ws out 0 0
enter_start {ws} {out} q =
    record {
      within = omega arith;
      is_rank = sym (rank_zero ws);
      filled = fill_start (ap length q ∙ length-replicate {A = ℕ} 128 0 ∙ sym (padded_long 128 (list_of ws)));
      rest = λ j l. rw q (zeros 128 j);
    }

module _ {ws out : List ℕ} {n a : ℕ} (s : Entering ws out n a) where
  pub enter_size : length out ≡ 128
  enter_size = s.filled.long ∙ padded_long 128 (list_of ws)

  -- an entry: its two bytes are those of the list
  two_filled : a < 256 → rank ws 256 ≤ 64 → is_entry ws a ≡ true → Filled (padded 128 (list_of ws)) (set (set out (2 * n) a) (2 * n + 1) (need_in (get_or ws a 0))) (2 * (n + 1))
  two_filled h f t =
      let y = s.is_rank in
      let z = rank_zero ws in
      let m = rank_more ws a 256 t h in
      let l = listed_at ws 256 0 a n t (omega arith) (omega arith) (omega arith) in
      let p = padded_long 128 (list_of ws) in
      fill_two n s.filled (omega arith)
      (sym (padded_at 128 (list_of ws) (2 * n) (omega arith) ∙ l.entry_is))
      (sym (padded_at 128 (list_of ws) (2 * n + 1) (omega arith) ∙ l.need_is))

  -- and behind them the zeros are as they were
  two_rest : (v w j : ℕ) → 2 * (n + 1) ≤ j → get_or (set (set out (2 * n) v) (2 * n + 1) w) j 0 ≡ 0
  two_rest v w j i =
      let second : j ≢ 2 * n + 1 = λ q. omega arith in
      let first : j ≢ 2 * n = λ q. omega arith in
      rw (get_or-set_other (set out (2 * n) v) (2 * n + 1) j w 0 second, get_or-set_other out (2 * n) j v 0 first) (s.rest j (omega arith))

  after_entry : {n' : ℕ} {out' : List ℕ} → a < 256 → rank ws 256 ≤ 64 → is_entry ws a ≡ true → n' ≡ rank_after ws a n → out' ≡ list_after ws a n out → Entering ws out' n' (a + 1)
  unfolding rank_after list_after
  after_entry {n'} {out'} h f t p q =
      let k : n' ≡ n + 1 = p ∙ (rw t) in
      let o : out' ≡ set (set out (2 * n) a) (2 * n + 1) (need_in (get_or ws a 0)) = q ∙ (rw t) in
      record {
        within = omega arith;
        is_rank = p ∙ rank_behind ws a n s.is_rank;
        filled = rw (k, o) (two_filled h f t);
        rest = rw (k, o) (two_rest a (need_in (get_or ws a 0)));
      }

  after_other : {n' : ℕ} {out' : List ℕ} → a < 256 → is_entry ws a ≡ false → n' ≡ rank_after ws a n → out' ≡ list_after ws a n out → Entering ws out' n' (a + 1)
  unfolding rank_after list_after
  after_other {n'} {out'} h t p q =
      let k : n' ≡ n = p ∙ (rw t) in
      let o : out' ≡ out = q ∙ (rw t) in
      record {
        within = omega arith;
        is_rank = p ∙ rank_behind ws a n s.is_rank;
        filled = rw (k, o) s.filled;
        rest = rw (k, o) s.rest;
      }

  pub enter_next : {n' : ℕ} {out' : List ℕ} → a < 256 → rank ws 256 ≤ 64 → n' ≡ rank_after ws a n → out' ≡ list_after ws a n out → Entering ws out' n' (a + 1)
  enter_next h f p q = by_test (is_entry ws a) (λ t. after_entry h f t p q) (λ t. after_other h t p q)

  pub enter_few : rank ws 256 ≤ 64 → n ≤ 64
  enter_few f = let m = rank_mono ws a 256 s.within in let y = s.is_rank in omega arith

  pub enter_end : 256 ≤ a → out ≡ padded 128 (list_of ws)
  enter_end h =
      let w = s.within in
      let e : a ≡ 256 = omega arith in
      let y : n ≡ rank ws 256 = s.is_rank ∙ ap (rank ws) e in
      let z = rank_zero ws in
      let r = list_long ws 256 0 256 (omega arith) in
      let g = enter_size in
      ext_get_or 0 out (padded 128 (list_of ws)) s.filled.long
      (λ j l.
      by_test (ltb j (2 * n))
      (λ q. s.filled.same j (ltb-true j _ q))
      (λ q. let i : 2 * n ≤ j = ltb-false j _ q in
      s.rest j i ∙ sym (padded_at 128 (list_of ws) j (omega arith) ∙ get_or-eq_default (list_of ws) 0 (omega arith))))
