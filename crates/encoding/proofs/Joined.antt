-- Fields joined by shifts and `|` are sums, since no field reaches another's bits.
-- Assumes nothing.
use mathlib.Core.Path.{◌≡◌, ap, ◌∙◌}
use mathlib.Core.Bool.{false, ◌||◌}
use Prim.Native.Nat.{ℕ, ◌+◌, ◌*◌, ◌%◌, ◌^◌, ◌≤◌, ◌<◌}
use native.Mathlib.Omega.{arith}
use lib.Bits.{bit_or, or_shifted}
use lib.Dec.{ltb}
use borrow.Author.Tests.{ltb-false}
use Rattle.slices.proofs.Bools.{neither}

-- n has nothing below bit k, so `|` adds what is below
over : (k m n b : ℕ) → n ≡ m * 2 ^ k → b < 2 ^ k → bit_or n b ≡ n + b
over k m n b e h = rw e (or_shifted m k b h)

-- (f << 4) | b
pub joined_argument : (f b : ℕ) → f ≤ 15 → b ≤ 3 → bit_or ((f * 16) % 256) b ≡ f * 16 + b
joined_argument f b h l = over 4 (f % 16) (f * 16 % 256) b (omega arith) (omega arith) ∙ omega arith

-- (p << 4) | (d << 2)
pub joined_pair : (p d : ℕ) → d ≤ 3 → bit_or ((p * 16) % 256) ((d * 4) % 256) ≡ p * 16 % 256 + d * 4
joined_pair p d h = over 4 (p % 16) (p * 16 % 256) (d * 4 % 256) (omega arith) (omega arith) ∙ omega arith

-- (p << 4) | (d << 2) | a
pub joined_opcode : (p d a : ℕ) → ltb 3 d || ltb 3 a ≡ false → bit_or (bit_or ((p * 16) % 256) ((d * 4) % 256)) a ≡ p * 16 % 256 + d * 4 + a
joined_opcode p d a h =
    let small = neither (ltb 3 d) (ltb 3 a) h in
    let hd = ltb-false 3 d small.0 in
    let ha = ltb-false 3 a small.1 in
    ap (λ (n : ℕ). bit_or n a) (joined_pair p d hd) ∙ over 2 (p % 16 * 4 + d) (p * 16 % 256 + d * 4) a (omega arith) (omega arith)

-- (p << 2) | a
pub joined_six : (p a : ℕ) → a ≤ 3 → bit_or ((p * 4) % 256) a ≡ p * 4 % 256 + a
joined_six p a l = over 2 (p % 64) (p * 4 % 256) a (omega arith) (omega arith)
