-- What the last arm, `_`, of a `match` on a number knows, where the arms before it are the numbers 0, 1, 2 and so on.
-- Assumes nothing.
use mathlib.Core.Path.{◌≡◌, sym}
use Prim.Native.Nat.{ℕ, zero, suc, ◌≤◌, zero-le}
use lib.Arith.{lt_of_le-ne}

-- n is none of 0, 1, .., k - 1, as the field `rest` of such a match says
abbrev pub NoneBelow : ℕ → ℕ → Type 0
NoneBelow n zero = Unit {0}
NoneBelow n (suc k) = NoneBelow n k × (n ≡ k → ⊥)

pub past : (n k : ℕ) → NoneBelow n k → k ≤ n
past n zero h = zero-le
past n (suc k) h = lt_of_le-ne (past n k h.0) (λ e. h.1 (sym e))
