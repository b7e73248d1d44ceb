-- How many groups a number has at most.
-- Assumes nothing.
use Prim.Native.Nat.{ℕ, suc, ◌/◌, ◌≤◌, ◌<◌}
use native.Mathlib.Omega.{arith}
use lib.ListN.{length}
use lib.Dec.{ltb}
use borrow.Author.Tests.{ltb-true, ltb-false}
use Rattle.slices.proofs.Bools.{by_test}
use Rattle.groups.specs.Groups.{groups_of}
use Rattle.groups.proofs.Groups.{last_group, more_groups}

pub one_group : (n : ℕ) → n < 128 → length (groups_of n) ≤ 1
one_group n l = rw (last_group n l) (omega arith)

-- a group more for a number 128 times as large
group_more : (k n : ℕ) → 1 ≤ k → (128 ≤ n → length (groups_of (n / 128)) ≤ k) → length (groups_of n) ≤ suc k
group_more k n l h =
    by_test (ltb n 128)
    (λ t. let r = one_group n (ltb-true n 128 t) in omega arith)
    (λ t. let b = ltb-false n 128 t in let r = h b in rw (more_groups n b) (omega arith))

pub two_groups : (n : ℕ) → n < 16384 → length (groups_of n) ≤ 2
two_groups n l = group_more 1 n (omega arith) (λ b. one_group (n / 128) (omega arith))

pub three_groups : (n : ℕ) → n < 2097152 → length (groups_of n) ≤ 3
three_groups n l = group_more 2 n (omega arith) (λ b. two_groups (n / 128) (omega arith))
