-- An instruction that encodes decodes to itself: each form is what its own row reads as, and joined letters are cut apart again, which is
-- shown for each of the four kinds of opcode and of argument.
-- Assumes nothing.
use mathlib.Core.Path.{◌≡◌, refl}
use mathlib.Core.Bool.{Bool, true, false, cond}
use Prim.Native.Nat.{ℕ, ◌/◌, ◌%◌}
use native.Mathlib.Omega.{arith}
use lib.Dec.{ltb}
use borrow.Author.Tests.{ltb-false}
use Rattle.std.specs.Prelude.{Ok, Err}
use Rattle.std.proofs.lemmas.Result.{IfOk-at_ok}
use Rattle.slices.proofs.Bools.{neither}
use Rattle.isa.specs.Decode.{form_of, decode_of}
use Rattle.isa.specs.Encode.{bad_in_opcode, bad_in_argument, bad_register, bad_function, opcode_byte, argument_byte, Encoded, join_of, encode_of}
use Rattle.isa.specs.RoundTrip.{ReadsBack}
use Rattle.isa.specs.Table.{row_of, opcode_in, argument_in}
use Rattle.isa.specs.declared.Argument.{Argument}
use Rattle.isa.specs.declared.Argument.TheVariants.{FFFFXXBB, IIIIIIII, XXXXXXBB, XXXXXXXX}
use Rattle.isa.specs.declared.EncodeError.TheVariants.{BadRegister, BadFunction}
use Rattle.isa.specs.declared.Instr.{Instr}
use Rattle.isa.specs.declared.Instr.TheVariants.{Alu, AddImm, AluNone, CmpImm, MaskImm, MaskIn, MovImm, MovIn, Ack, StoreAddr, StoreReg, Push, LoadAddr, LoadReg, Pop, Swap, Jmp, JmpReg, Call, Ret, Jz, Jnz, Jc, Jnc, Jv, Jnv, Jlz, Jp, Jgz, Jleu, Jlt, Jle, LcdCmd, LcdImm, LcdReg, LcdMem, OutReg, OutMem, Hlt, Nop}
use Rattle.isa.specs.declared.Opcode.{Opcode}
use Rattle.isa.specs.declared.Opcode.TheVariants.{DDAA, DDXX, OOAA, OOXX}
use Rattle.isa.specs.declared.Row.{Row}

-- the fields that decoding cuts from the bytes of a row
abbrev upper_four : Opcode → ℕ
upper_four (DDAA p d a) = p % 16
upper_four (DDXX p d) = p % 16
upper_four (OOAA p a) = p / 4 % 16
upper_four (OOXX p) = p / 4 % 16

abbrev next_two : Opcode → ℕ
next_two (DDAA p d a) = d
next_two (DDXX p d) = d
next_two (OOAA p a) = p % 4
next_two (OOXX p) = p % 4

abbrev low_two : Opcode → ℕ
low_two (DDAA p d a) = a
low_two (DDXX p d) = 0
low_two (OOAA p a) = a
low_two (OOXX p) = 0

abbrev function_in : Argument → ℕ
function_in (FFFFXXBB f b) = f
function_in (IIIIIIII i) = i / 16
function_in (XXXXXXBB b) = 0
function_in XXXXXXXX = 0

abbrev second_in : Argument → ℕ
second_in (FFFFXXBB f b) = b
second_in (IIIIIIII i) = i % 4
second_in (XXXXXXBB b) = b
second_in XXXXXXXX = 0

abbrev read_row : Row → Instr
read_row r =
    form_of (upper_four (opcode_in r)) (next_two (opcode_in r)) (low_two (opcode_in r)) (function_in (argument_in r)) (second_in (argument_in r))
    (argument_byte (argument_in r))

-- the row of each form, read again, is the form
row_read : (i : Instr) → read_row (row_of i) ≡ i
unfolding form_of
row_read (Alu d a f b) = refl
row_read (AddImm d a i) = refl
row_read (AluNone a f b) = refl
row_read (CmpImm a i) = refl
row_read (MaskImm a i) = refl
row_read (MaskIn i) = refl
row_read (MovImm d i) = refl
row_read (MovIn d) = refl
row_read Ack = refl
row_read (StoreAddr a i) = refl
row_read (StoreReg a b) = refl
row_read (Push a) = refl
row_read (LoadAddr d i) = refl
row_read (LoadReg d a) = refl
row_read (Pop d) = refl
row_read (Swap d a) = refl
row_read (Jmp i) = refl
row_read (JmpReg a) = refl
row_read (Call i) = refl
row_read Ret = refl
row_read (Jz i) = refl
row_read (Jnz i) = refl
row_read (Jc i) = refl
row_read (Jnc i) = refl
row_read (Jv i) = refl
row_read (Jnv i) = refl
row_read (Jlz i) = refl
row_read (Jp i) = refl
row_read (Jgz i) = refl
row_read (Jleu i) = refl
row_read (Jlt i) = refl
row_read (Jle i) = refl
row_read (LcdCmd i) = refl
row_read (LcdImm i) = refl
row_read (LcdReg a) = refl
row_read (LcdMem i) = refl
row_read (OutReg a) = refl
row_read (OutMem i) = refl
row_read Hlt = refl
row_read Nop = refl

-- joined letters are cut apart again
record Cut (o : Opcode) (op : ℕ) : Type 0 where
  upper : op / 16 ≡ upper_four o
  next : op / 4 % 4 ≡ next_two o
  low : op % 4 ≡ low_two o

cut_opcode : (o : Opcode) → bad_in_opcode o ≡ false → Cut o (opcode_byte o)
cut_opcode (DDAA p d a) h =
    let small = neither (ltb 3 d) (ltb 3 a) h in
    let hd = ltb-false 3 d small.0 in
    let ha = ltb-false 3 a small.1 in
    record { upper = omega arith; next = omega arith; low = omega arith }
cut_opcode (DDXX p d) h =
    let hd = ltb-false 3 d h in
    record { upper = omega arith; next = omega arith; low = omega arith }
cut_opcode (OOAA p a) h =
    let ha = ltb-false 3 a h in
    record { upper = omega arith; next = omega arith; low = omega arith }
cut_opcode (OOXX p) h = record { upper = omega arith; next = omega arith; low = omega arith }

record CutArgument (g : Argument) (arg : ℕ) : Type 0 where
  function : arg / 16 ≡ function_in g
  second : arg % 4 ≡ second_in g

argument_cut : (g : Argument) → bad_in_argument g ≡ false → bad_function g ≡ false → CutArgument g (argument_byte g)
argument_cut (FFFFXXBB f b) h k =
    let hb = ltb-false 3 b h in
    let hf = ltb-false 15 f k in
    record { function = omega arith; second = omega arith }
argument_cut (IIIIIIII i) h k = record { function = refl; second = refl }
argument_cut (XXXXXXBB b) h k =
    let hb = ltb-false 3 b h in
    record { function = omega arith; second = omega arith }
argument_cut XXXXXXXX h k = record { function = refl; second = refl }

-- bytes come from a row with good letters
accepted : (a b : Bool) (x y op arg : ℕ) → cond {A = Encoded} a (Err BadRegister) (cond b (Err BadFunction) (Ok (x, y))) ≡ Ok (op, arg)
    → (a ≡ false) × (b ≡ false) × (x ≡ op) × (y ≡ arg)
accepted true b x y op arg h = (cc, cc, cc, cc)
accepted false true x y op arg h = (cc, cc, cc, cc)
accepted false false x y op arg h =
    let same = IfOk-at_ok (λ (bytes : ℕ × ℕ). (x ≡ bytes.0) × (y ≡ bytes.1)) h (refl, refl) in
    (refl, refl, same.0, same.1)

pub encode_decode : (i : Instr) → ReadsBack i (encode_of i)
unfolding encode_of join_of decode_of
encode_decode i op arg h =
    let o = opcode_in (row_of i) in
    let g = argument_in (row_of i) in
    let t = accepted (bad_register (row_of i)) (bad_function g) (opcode_byte o) (argument_byte g) op arg h in
    let good = neither (bad_in_opcode o) (bad_in_argument g) t.0 in
    let co = cut_opcode o good.0 in
    let cg = argument_cut g good.1 t.1 in
    rw (← t.2, ← t.3, co.upper, co.next, co.low, cg.function, cg.second) (row_read i)
