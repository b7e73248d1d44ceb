-- The numbers of a form: its registers and function where it is valid, and its row of spellings, from which its own row of 003's table and its
-- function are told again.
-- Assumes nothing.
use Prim.Native.Nat.{ℕ, ◌<◌}
use native.Mathlib.Omega.{arith}
use mathlib.Core.Path.{◌≡◌, refl, sym}
use mathlib.Core.Bool.{Bool, true, false, not, ◌&&◌, ◌||◌}
use lib.Dec.{eqb, ltb}
use borrow.Author.Tests.{eqb-true, ltb-true, ltb-false}
use Rattle.slices.proofs.Below as below
use Rattle.slices.proofs.Bools.{both, neither}
use Rattle.isa.specs.Encode.{bad_in_opcode, bad_in_argument, bad_function, Valid}
use Rattle.isa.specs.Table.{row_of, opcode_in, argument_in}
use Rattle.isa.specs.declared.Argument.{Argument}
use Rattle.isa.specs.declared.Argument.TheVariants.{FFFFXXBB, IIIIIIII, XXXXXXBB, XXXXXXXX}
use Rattle.isa.specs.declared.Instr.{Instr}
use Rattle.isa.specs.declared.Opcode.{Opcode}
use Rattle.isa.specs.declared.Opcode.TheVariants.{DDAA, DDXX, OOAA, OOXX}
use Rattle.numbers.specs.Numbers.{fields_of}
use Rattle.numbers.specs.declared.Fields.{Fields}
use Rattle.spelling.specs.Spellings.{row_with, form_at, function_at}
use Rattle.printing.specs.Print.{spelling_row}
use Rattle.printing.specs.Shown.{is_function}
use Rattle.printing.proofs.AllForms.{by_forms}

-- the letters of a row of 003's table, 0 for one that it has not
abbrev d_in : Opcode → ℕ
d_in (DDAA p d a) = d
d_in (DDXX p d) = d
d_in (OOAA p a) = 0
d_in (OOXX p) = 0

abbrev a_in : Opcode → ℕ
a_in (DDAA p d a) = a
a_in (DDXX p d) = 0
a_in (OOAA p a) = a
a_in (OOXX p) = 0

abbrev f_in : Argument → ℕ
f_in (FFFFXXBB f b) = f
f_in (IIIIIIII i) = 0
f_in (XXXXXXBB b) = 0
f_in XXXXXXXX = 0

abbrev b_in : Argument → ℕ
b_in (FFFFXXBB f b) = b
b_in (IIIIIIII i) = 0
b_in (XXXXXXBB b) = b
b_in XXXXXXXX = 0

opcode_good : (o : Opcode) → bad_in_opcode o ≡ false → (d_in o < 4) × (a_in o < 4)
opcode_good (DDAA p d a) e = let u = neither (ltb 3 d) (ltb 3 a) e in omega (arith, ltb-false 3 d u.0, ltb-false 3 a u.1)
opcode_good (DDXX p d) e = omega (arith, ltb-false 3 d e)
opcode_good (OOAA p a) e = omega (arith, ltb-false 3 a e)
opcode_good (OOXX p) e = omega arith

argument_good : (g : Argument) → bad_in_argument g ≡ false → bad_function g ≡ false → (f_in g < 16) × (b_in g < 4)
argument_good (FFFFXXBB f b) e h = omega (arith, ltb-false 3 b e, ltb-false 15 f h)
argument_good (IIIIIIII i) e h = omega arith
argument_good (XXXXXXBB b) e h = omega (arith, ltb-false 3 b e)
argument_good XXXXXXXX e h = omega arith

pub record InRange (x : Fields) : Type 0 where
  pub d : x.1 < 4
  pub a : x.2 < 4
  pub f : x.3 < 16
  pub b : x.4 < 4

pub valid_fields : (i : Instr) → Valid i → InRange (fields_of i)
valid_fields i v =
    let o = opcode_in (row_of i) in
    let g = argument_in (row_of i) in
    let u = neither (bad_in_opcode o) (bad_in_argument g) v.0 in
    let r = opcode_good o u.0 in
    let s = argument_good g u.1 v.1.0 in
    record {
      d = rw (by_forms (λ i. (fields_of i).1) (λ i. d_in (opcode_in (row_of i))) (λ d a f b n. refl) i) r.0;
      a = rw (by_forms (λ i. (fields_of i).2) (λ i. a_in (opcode_in (row_of i))) (λ d a f b n. refl) i) r.1;
      f = rw (by_forms (λ i. (fields_of i).3) (λ i. f_in (argument_in (row_of i))) (λ d a f b n. refl) i) s.0;
      b = rw (by_forms (λ i. (fields_of i).4) (λ i. b_in (argument_in (row_of i))) (λ d a f b n. refl) i) s.1;
    }

-- a form's number in 003's table and its function, which only the rows ALU* have
abbrev numbered : ℕ → ℕ → Bool
numbered form f = ltb form 40 && (is_function form || eqb f 0)

-- they are told from the row of its spelling
abbrev told : ℕ → ℕ → Bool
told form f = not (numbered form f) || (ltb (row_with form f) 70 && eqb (form_at (row_with form f)) form && eqb (function_at (row_with form f)) f)

pub record Told (x : Fields) (k : ℕ) : Type 0 where
  pub within : k < 70
  pub form : x.0 ≡ form_at k
  pub function : x.3 ≡ function_at k

all_told : (form f : ℕ) → form < 40 → f < 16 → told form f ≡ true
all_told form f h l = below.at (told form) 16 (below.at (λ m. below.all_below (told m) 16) 40 refl form h) f l

pub row_told : (i : Instr) → Valid i → Told (fields_of i) (spelling_row (fields_of i))
row_told i v =
    let x = fields_of i in
    let k = spelling_row x in
    let n = by_forms (λ i. numbered (fields_of i).0 (fields_of i).3) (λ i. true) (λ d a f b n. refl) i in
    let t = all_told x.0 x.3 (ltb-true _ _ (both (ltb x.0 40) _ n).0) (valid_fields i v).f in
    let u = both (ltb k 70 && eqb (form_at k) x.0) (eqb (function_at k) x.3) (rw n at t) in
    let w = both (ltb k 70) (eqb (form_at k) x.0) u.0 in
    record { within = ltb-true k 70 w.0; form = sym (eqb-true _ _ w.1); function = sym (eqb-true _ _ u.1) }
