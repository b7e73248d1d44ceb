-- What a test tells.
-- Assumes nothing.
use mathlib.Core.Path.{◌≡◌, sym}
use mathlib.Core.Bool.{Bool, true, false, ◌&&◌}
use Prim.Native.Nat.{ℕ}
use native.Mathlib.Omega.{arith}

pub absurd_bool {ℓ} : {A : Type ℓ} → true ≡ false → A
absurd_bool e = absurd (let z : ◌≡◌ {A = ℕ} 0 1 = cc in omega arith)

-- a conjunction that fails, one of whose sides holds
pub and_false : (a b : Bool) → a && b ≡ false → a ≡ true → b ≡ false
and_false true b e q = e
and_false false b e q = absurd_bool (sym q)
