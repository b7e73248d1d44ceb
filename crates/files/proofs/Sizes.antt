-- The lengths that 1 to 3 ask for.
-- Assumes nothing.
use Prim.Native.Nat.{ℕ, ◌*◌, ◌%◌, ◌≤◌}
use native.Mathlib.Omega.{arith}
use mathlib.Core.Path.{◌≡◌}
use mathlib.Core.Bool.{◌||◌}
use lib.ListN.{length}
use lib.Dec.{eqb, ltb}
use borrow.Author.Tests.{eqb-true, eqb-false, ltb-false, eq-eqb, ne_eqb, le-ltb, not-false}
use Rattle.slices.specs.Checks.{NoneBroken}
use Rattle.slices.proofs.Bools.{both, neither}
use Rattle.rules.specs.Grounds.{listing_checks}
use Rattle.rules.specs.Sheet.{Listing, routines}

pub record Sizes (L : Listing) : Type 0 where
  pub opcodes : length L.program.opcodes ≡ 256
  pub arguments : length L.program.arguments ≡ 256
  pub sheet : length L.sheet ≡ 512
  pub list : length L.list ≡ 2 * routines L
  pub some : 1 ≤ routines L
  pub few : routines L ≤ 64

pub good_sizes : (L : Listing) → NoneBroken (listing_checks L) → Sizes L
unfolding routines
good_sizes L p =
    let t = both (eqb (length L.program.opcodes) 256) (eqb (length L.program.arguments) 256) (not-false _ p.0) in
    let u = neither (eqb (length L.list % 2) 1) (eqb (length L.list) 0 || ltb 128 (length L.list)) p.1.1.0 in
    let v = neither (eqb (length L.list) 0) (ltb 128 (length L.list)) u.1 in
    let even = eqb-false (length L.list % 2) 1 u.0 in
    let some = eqb-false (length L.list) 0 v.0 in
    let few = ltb-false 128 (length L.list) v.1 in
    record {
      opcodes = eqb-true _ _ t.0;
      arguments = eqb-true _ _ t.1;
      sheet = eqb-true _ _ (not-false _ p.1.0);
      list = omega arith;
      some = omega arith;
      few = omega arith;
    }

pub sizes_good : (L : Listing) (k : ℕ) → length L.program.opcodes ≡ 256 → length L.program.arguments ≡ 256 → length L.sheet ≡ 512 → length L.list ≡ 2 * k
    → 1 ≤ k → k ≤ 64 → NoneBroken (listing_checks L)
sizes_good L k o g s e i f = (
  rw (eq-eqb _ _ o, eq-eqb _ _ g),
  (
    rw (eq-eqb _ _ s),
    (
      rw (ne_eqb (length L.list % 2) 1 (λ z. omega arith), ne_eqb (length L.list) 0 (λ z. omega arith), le-ltb 128 (length L.list) (omega arith)),
      tt,
    ),
  ),
)
