-- Two bytes decoded and encoded again are the same but for the free bits. Decoding finds a row that matches, whose letters are cut from the
-- bytes. There are four kinds of opcode and four of argument: joining cut letters is shown for each kind, whatever the form.
-- Assumes nothing.
use mathlib.Core.Path.{◌≡◌, refl, sym, ap, ap₂, ◌∙◌}
use mathlib.Core.Bool.{true, false, ◌&&◌}
use Prim.Native.Nat.{ℕ, ◌+◌, ◌*◌, ◌/◌, ◌%◌, ◌^◌, ◌<◌}
use native.Mathlib.Omega.{arith}
use lib.Dec.{eqb}
use lib.Bits.{bit_and, and_mask, and_high, and_block, and_zero_r}
use borrow.Author.Tests.{le-ltb, eqb-true}
use Rattle.std.specs.Prelude.{Ok}
use Rattle.slices.proofs.Bools.{both}
use Rattle.isa.specs.Decode.{forms, matches, form_of, decode_of}
use Rattle.isa.specs.Encode.{bad_in_opcode, bad_in_argument, bad_function, Valid, opcode_byte, argument_byte, encode_of}
use Rattle.isa.specs.Free.{free_in_opcode, free_in_argument, without}
use Rattle.isa.specs.RoundTrip.{WritesBack, Assigned}
use Rattle.isa.specs.Table.{row_of, opcode_in, argument_in}
use Rattle.isa.specs.declared.Argument.{Argument}
use Rattle.isa.specs.declared.Argument.TheVariants.{FFFFXXBB, IIIIIIII, XXXXXXBB, XXXXXXXX}
use Rattle.isa.specs.declared.Opcode.{Opcode}
use Rattle.isa.specs.declared.Opcode.TheVariants.{DDAA, DDXX, OOAA, OOXX}
use Rattle.isa.specs.declared.Row.{Row}
use Rattle.isa.proofs.Assigned.{assigned, first_matches, fill_opcode, fill_argument, fill_row, found_filled}
use Rattle.isa.proofs.Refusals.{joins}

-- a byte without bits 3 and 2
ends : (n : ℕ) → n < 256 → n / 16 * 16 + n % 4 ≡ bit_and n 243
ends n h =
    sym
    (ap (λ (x : ℕ). bit_and x 243) {x = n} {y = n / 16 * 2 ^ 4 + n % 16} (omega arith)
    ∙ and_block 4 (n / 16) 15 (n % 16) 3 (omega arith) (omega arith)
    ∙ ap₂ (λ (x y : ℕ). x * 2 ^ 4 + y) (and_mask (n / 16) 4) (and_mask (n % 16) 2)
    ∙ omega arith)

-- six bits are four and two
six : (op p : ℕ) → (eqb (op / 16) (p / 4) && eqb (op / 4 % 4) (p % 4)) ≡ true → op / 4 ≡ p
six op p m =
    let t = both (eqb (op / 16) (p / 4)) (eqb (op / 4 % 4) (p % 4)) m in
    let u = eqb-true (op / 16) (p / 4) t.0 in
    let v = eqb-true (op / 4 % 4) (p % 4) t.1 in
    let e : op / 4 / 4 ≡ op / 16 = omega arith in
    omega arith

some : (n : ℕ) → n ≡ 1 → 0 < n
some n e = omega arith

-- an opcode whose letters are cut from op
module _ (op : ℕ) where
  abbrev cut : Opcode → Opcode
  cut o = fill_opcode (op / 4 % 4) (op % 4) o

  cut_good : (o : Opcode) → bad_in_opcode (cut o) ≡ false
  cut_good (DDAA p d a) = rw (le-ltb 3 (op / 4 % 4) (omega arith), le-ltb 3 (op % 4) (omega arith))
  cut_good (DDXX p d) = le-ltb 3 (op / 4 % 4) (omega arith)
  cut_good (OOAA p a) = le-ltb 3 (op % 4) (omega arith)
  cut_good (OOXX p) = refl

  -- where its fixed bits are op's, it is op without the free bits
  cut_joined : op < 256 → (o : Opcode) → matches (op / 16) (op / 4 % 4) o ≡ true → opcode_byte (cut o) ≡ without (free_in_opcode o) op
  cut_joined h (DDAA p d a) m = omega (arith, eqb-true (op / 16) p m, and_mask op 8)
  cut_joined h (DDXX p d) m = omega (arith, eqb-true (op / 16) p m, and_high op 6 2)
  cut_joined h (OOAA p a) m = omega (arith, six op p m, and_mask op 8)
  cut_joined h (OOXX p) m = omega (arith, six op p m, and_high op 6 2)

-- an argument whose letters are cut from arg
module _ (arg : ℕ) (h : arg < 256) where
  abbrev cut_argument : Argument → Argument
  cut_argument g = fill_argument (arg / 16) (arg % 4) arg g

  cut_register : (g : Argument) → bad_in_argument (cut_argument g) ≡ false
  cut_register (FFFFXXBB f b) = le-ltb 3 (arg % 4) (omega arith)
  cut_register (IIIIIIII i) = refl
  cut_register (XXXXXXBB b) = le-ltb 3 (arg % 4) (omega arith)
  cut_register XXXXXXXX = refl

  cut_function : (g : Argument) → bad_function (cut_argument g) ≡ false
  cut_function (FFFFXXBB f b) = le-ltb 15 (arg / 16) (omega arith)
  cut_function (IIIIIIII i) = refl
  cut_function (XXXXXXBB b) = refl
  cut_function XXXXXXXX = refl

  cut_argument_joined : (g : Argument) → argument_byte (cut_argument g) ≡ without (free_in_argument g) arg
  cut_argument_joined (FFFFXXBB f b) = ends arg h
  cut_argument_joined (IIIIIIII i) = omega (arith, and_mask arg 8)
  cut_argument_joined (XXXXXXBB b) = omega (arith, and_mask arg 2)
  cut_argument_joined XXXXXXXX = sym (and_zero_r arg)

-- the row of a decoded instruction
module _ (op arg : ℕ) (ho : op < 256) (ha : arg < 256) where
  abbrev found : Row
  found = row_of (decode_of op arg)

  filled : fill_row (op / 4 % 4) (op % 4) (arg / 16) (arg % 4) arg found ≡ found
  unfolding decode_of
  filled = found_filled (op / 16) (op / 4 % 4) (op % 4) (arg / 16) (arg % 4) arg

  fixed_bits : matches (op / 16) (op / 4 % 4) (opcode_in found) ≡ true
  unfolding decode_of form_of
  fixed_bits =
      first_matches (op / 16) (op / 4 % 4) (forms (op / 4 % 4) (op % 4) (arg / 16) (arg % 4) arg)
      (some _ (assigned op (op / 4 % 4) (op % 4) (arg / 16) (arg % 4) arg ho))

  opcode_filled : cut op (opcode_in found) ≡ opcode_in found
  opcode_filled = ap opcode_in filled

  argument_filled : cut_argument arg ha (argument_in found) ≡ argument_in found
  argument_filled = ap argument_in filled

  pub decoded_valid : Valid (decode_of op arg)
  decoded_valid =
      let o = rw opcode_filled at (cut_good op (opcode_in found)) in
      let g = rw argument_filled at (cut_register arg ha (argument_in found)) in
      let f = rw argument_filled at (cut_function arg ha (argument_in found)) in
      (rw (o, g), (f, tt))

  opcode_cleared : opcode_byte (opcode_in found) ≡ without (free_in_opcode (opcode_in found)) op
  opcode_cleared = ap opcode_byte (sym opcode_filled) ∙ cut_joined op ho (opcode_in found) fixed_bits

  argument_cleared : argument_byte (argument_in found) ≡ without (free_in_argument (argument_in found)) arg
  argument_cleared = ap argument_byte (sym argument_filled) ∙ cut_argument_joined arg ha (argument_in found)

  pub decoded_assigned : Assigned op (decode_of op arg)
  decoded_assigned = record { one_row = λ d a f b n. assigned op d a f b n ho; its_row = fixed_bits }

  pub decode_encode : WritesBack op arg (decode_of op arg)
  unfolding encode_of
  decode_encode =
      let v = decoded_valid in
      joins found v.0 v.1.0 ∙ ap₂ (λ (x y : ℕ). Ok (x, y)) opcode_cleared argument_cleared
