-- Every opcode matches just one of the forty rows, by one test over the 64 numbers of the upper six bits, and so the row that decoding
-- finds is one that matches. Its letters hold what was cut from the two bytes.
-- Assumes nothing.
use mathlib.Core.Path.{◌≡◌, refl}
use mathlib.Core.Bool.{Bool, true, false, cond}
use mathlib.Core.List.{List, [], ◌∷◌}
use Prim.Native.Nat.{ℕ, suc, ◌/◌, ◌%◌, ◌<◌}
use native.Mathlib.Omega.{arith}
use lib.Dec.{eqb}
use borrow.Author.Tests.{eqb-true}
use Rattle.slices.proofs.Below.{at}
use Rattle.slices.specs.Lists.{mapped}
use Rattle.isa.specs.Decode.{forms, matches, rows_for, first_for, form_of}
use Rattle.isa.specs.Table.{row, row_of, opcode_in, argument_in}
use Rattle.isa.specs.declared.Argument.{Argument}
use Rattle.isa.specs.declared.Argument.TheVariants.{FFFFXXBB, IIIIIIII, XXXXXXBB, XXXXXXXX}
use Rattle.isa.specs.declared.Instr.{Instr}
use Rattle.isa.specs.declared.Instr.TheVariants.{Nop}
use Rattle.isa.specs.declared.Opcode.{Opcode}
use Rattle.isa.specs.declared.Opcode.TheVariants.{DDAA, DDXX, OOAA, OOXX}
use Rattle.isa.specs.declared.Row.{Row}

-- the upper six bits g match one row
abbrev one_row : ℕ → Bool
one_row g = eqb (rows_for (g / 4) (g % 4) (forms 0 0 0 0 0)) 1

pub assigned : (op d a f b i : ℕ) → op < 256 → rows_for (op / 16) (op / 4 % 4) (forms d a f b i) ≡ 1
assigned op d a f b i h =
    let e : op / 4 / 4 ≡ op / 16 = omega arith in
    rw (← e) (eqb-true (rows_for (op / 4 / 4) (op / 4 % 4) (forms d a f b i)) 1 (at one_row 64 refl (op / 4) (omega arith)))

-- ---- the first row that matches

one_of : (P : Instr → Type 0) (t : Bool) (i j : Instr) → (t ≡ true → P i) → (t ≡ false → P j) → P (cond t i j)
one_of P true i j p q = p refl
one_of P false i j p q = q refl

some_left : (t : Bool) (n : ℕ) → t ≡ false → 0 < cond t (suc n) n → 0 < n
some_left t n e h = rw e at h

pub first_matches : (t e : ℕ) (l : List Instr) → 0 < rows_for t e l → matches t e (opcode_in (row_of (first_for t e l))) ≡ true
first_matches t e [] h = absurd (omega arith)
first_matches t e (i ∷ l) h =
    one_of (λ (j : Instr). matches t e (opcode_in (row_of j)) ≡ true) (matches t e (opcode_in (row_of i))) i (first_for t e l)
    (λ m. m) (λ m. first_matches t e l (some_left _ _ m h))

-- two functions that agree on a list and on the default agree on what is found there
first_agrees : (p q : Instr → Row) (t e : ℕ) (l : List Instr) → p Nop ≡ q Nop → mapped p l ≡ mapped q l → p (first_for t e l) ≡ q (first_for t e l)
first_agrees p q t e [] d h = d
first_agrees p q t e (i ∷ l) d h =
    one_of (λ (j : Instr). p j ≡ q j) (matches t e (opcode_in (row_of i))) i (first_for t e l)
    (λ m. cc) (λ m. first_agrees p q t e l d (cc))

-- ---- the letters

abbrev pub fill_opcode : ℕ → ℕ → Opcode → Opcode
fill_opcode d a (DDAA p x y) = DDAA p d a
fill_opcode d a (DDXX p x) = DDXX p d
fill_opcode d a (OOAA p y) = OOAA p a
fill_opcode d a (OOXX p) = OOXX p

abbrev pub fill_argument : ℕ → ℕ → ℕ → Argument → Argument
fill_argument f b i (FFFFXXBB x y) = FFFFXXBB f b
fill_argument f b i (IIIIIIII x) = IIIIIIII i
fill_argument f b i (XXXXXXBB x) = XXXXXXBB b
fill_argument f b i XXXXXXXX = XXXXXXXX

abbrev pub fill_row : ℕ → ℕ → ℕ → ℕ → ℕ → Row → Row
fill_row d a f b i r = row (fill_opcode d a (opcode_in r)) (fill_argument f b i (argument_in r)) r.2

-- each form has the same byte at the same letter, so the row found is filled already
pub found_filled : (t d a f b i : ℕ) → fill_row d a f b i (row_of (form_of t d a f b i)) ≡ row_of (form_of t d a f b i)
unfolding form_of
found_filled t d a f b i = first_agrees (λ (j : Instr). fill_row d a f b i (row_of j)) row_of t d (forms d a f b i) refl refl
