-- The forms of the macros with two and three words, by the row.
-- Assumes nothing.
use Prim.Native.Nat.{ℕ, ◌-◌, ◌≤◌, ◌<◌}
use native.Mathlib.Omega.{arith}
use mathlib.Core.Path.{◌≡◌}
use lib.Dec.{eqb}
use borrow.Author.Tests.{eqb-true, eqb-false}
use Rattle.slices.proofs.Bools.{by_test}
use Rattle.isa.specs.declared.Instr.TheVariants.{Jmp}
use Rattle.spelling.specs.Spellings.{forms_of}
use Rattle.expansion.specs.internal.Forms.{Third}

pub last_row : (k : ℕ) → 8 ≤ k - 81 → k < 90 → k ≡ 89
last_row k h l = omega arith

pub third_jumps : (k to : ℕ) → 86 ≤ k → k < 89 → Third k to (Jmp to)
unfolding forms_of
third_jumps k to h l p at =
    by_test (eqb k 86) (λ e. rw (eqb-true k 86 e)) (λ e.
    by_test (eqb k 87) (λ f. rw (eqb-true k 87 f)) (λ f.
    let a = eqb-false k 86 e in let b = eqb-false k 87 f in let g : k ≡ 88 = omega arith in rw g))
