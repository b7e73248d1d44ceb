-- A buffer filled from its beginning: its first bytes are those of the target, and what is not yet filled is not said.
-- Assumes nothing.
use Prim.Native.Nat.{ℕ, ◌+◌, ◌*◌, ◌≤◌, ◌<◌}
use native.Mathlib.Omega.{arith}
use mathlib.Core.Path.{◌≡◌, ◌∙◌, subst}
use mathlib.Core.Logic.{◌≢◌}
use mathlib.Core.List.{List}
use lib.Dec.{eqb}
use lib.ListN.{length, get_or, set, length-set}
use lib.Seq.{ext_get_or, get_or-set_same, get_or-set_other}
use borrow.Author.Tests.{eqb-true, eqb-false}
use Rattle.slices.proofs.Bools.{by_test}

pub record Filled (target out : List ℕ) (k : ℕ) : Type 0 where
  pub long : length out ≡ length target
  pub within : k ≤ length target
  pub same : (j : ℕ) → j < k → get_or out j 0 ≡ get_or target j 0

pub fill_start : {target out : List ℕ} → length out ≡ length target → Filled target out 0
fill_start h = record { long = h; within = omega arith; same = λ j l. absurd (omega arith) }

pub fill_put : {target out : List ℕ} {k v : ℕ} → Filled target out k → k < length target → v ≡ get_or target k 0 → Filled target (set out k v) (k + 1)
fill_put {target} {out} {k} {v} f h e =
    record {
      long = length-set out k v ∙ f.long;
      within = omega arith;
      same = λ j l.
          by_test (eqb j k)
          (λ q. let s : j ≡ k = eqb-true j k q in rw (s, get_or-set_same out k v 0 (let g = f.long in omega arith)) e)
          (λ q. let ne : j ≢ k = eqb-false j k q in rw (get_or-set_other out k j v 0 ne) (f.same j (omega arith)));
    }

-- two bytes at once, those of the place a
pub fill_two :
    {target out : List ℕ} {v w : ℕ} (a : ℕ) → Filled target out (2 * a) → 2 * a + 1 < length target
    → v ≡ get_or target (2 * a) 0 → w ≡ get_or target (2 * a + 1) 0 → Filled target (set (set out (2 * a) v) (2 * a + 1) w) (2 * (a + 1))
fill_two {target} {out} {v} {w} a f h e g =
    let q : 2 * a + 1 + 1 ≡ 2 * (a + 1) = omega arith in
    subst (λ (k : ℕ). Filled target (set (set out (2 * a) v) (2 * a + 1) w) k) q (fill_put (fill_put f (omega arith) e) h g)

pub fill_end : {target out : List ℕ} {k : ℕ} → Filled target out k → length target ≤ k → out ≡ target
fill_end {target} {out} {k} f h = ext_get_or 0 out target f.long (λ j l. f.same j (let g = f.long in omega arith))
