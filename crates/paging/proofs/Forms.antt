-- The table of forms by the upper six bits of an opcode finds what decoding finds, whatever stands at the letters: one computed test.
-- Assumes nothing.
use Prim.Native.Nat.{ℕ, ◌/◌, ◌%◌, ◌<◌}
use native.Mathlib.Omega.{arith}
use mathlib.Core.Path.{◌≡◌, refl}
use mathlib.Core.List.{List, [], ◌∷◌}
use lib.ListN.{get_or}
use Rattle.isa.specs.Decode.{form_of, decode_of}
use Rattle.numbers.specs.Numbers.{instr_of}
use Rattle.slices.proofs.Tables.{same_below}

abbrev pub forms : List ℕ
forms =
    0 ∷ 0 ∷ 0 ∷ 0 ∷ 1 ∷ 1 ∷ 1 ∷ 1 ∷ 2 ∷ 3 ∷ 4 ∷ 5 ∷ 6 ∷ 6 ∷ 6 ∷ 6 ∷ 7 ∷ 7 ∷ 7 ∷ 7 ∷ 8 ∷ 9 ∷ 10 ∷ 11
    ∷ 12 ∷ 12 ∷ 12 ∷ 12 ∷ 13 ∷ 13 ∷ 13 ∷ 13 ∷ 14 ∷ 14 ∷ 14 ∷ 14 ∷ 15 ∷ 15 ∷ 15 ∷ 15 ∷ 16 ∷ 17 ∷ 18 ∷ 19 ∷ 20 ∷ 21 ∷ 22 ∷ 23
    ∷ 24 ∷ 25 ∷ 26 ∷ 27 ∷ 28 ∷ 29 ∷ 30 ∷ 31 ∷ 32 ∷ 33 ∷ 34 ∷ 35 ∷ 36 ∷ 37 ∷ 38 ∷ 39 ∷ []

pub form_found : (a f b i k : ℕ) → k < 64 → instr_of (get_or forms k 0, k % 4, a, f, b, i) ≡ form_of (k / 4) (k % 4) a f b i
unfolding instr_of form_of
form_found a f b i k h = same_below (λ k. instr_of (get_or forms k 0, k % 4, a, f, b, i)) (λ k. form_of (k / 4) (k % 4) a f b i) 64 refl k h

pub instruction_found : (op arg : ℕ) {d a b : ℕ} → op < 256 → d ≡ op / 4 % 4 → a ≡ op % 4 → b ≡ arg % 4
    → instr_of (get_or forms (op / 4) 0, d, a, arg / 16, b, arg) ≡ decode_of op arg
unfolding decode_of
instruction_found op arg h d a b =
    let e : op / 4 / 4 ≡ op / 16 = omega arith in
    rw (d, a, b, ← e) (form_found (op % 4) (arg / 16) (arg % 4) arg (op / 4) (omega arith))
