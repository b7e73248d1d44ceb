-- The numbers of an instruction are those of that instruction alone, and the numbers of bytes hold those bytes.
-- Assumes nothing.
use mathlib.Core.Path.{◌≡◌, refl}
use mathlib.Core.List.{List}
use native.Mathlib.Omega.{arith}
use Rattle.std.specs.Prelude.{Ok, Err}
use Rattle.slices.specs.Checks.{Check, FirstViolation}
use Rattle.isa.specs.Decode.{decode_of}
use Rattle.isa.specs.Encode.{Encoded, number_of, Accepted}
use Rattle.isa.specs.RoundTrip.{ReadsBack}
use Rattle.isa.specs.declared.EncodeError.TheVariants.{BadBank, BadRegister, BadFunction}
use Rattle.isa.specs.declared.Instr.{Instr}
use Rattle.isa.specs.declared.Instr.TheVariants.{Alu, AddImm, AluNone, CmpImm, MaskImm, MaskIn, MovImm, MovIn, Ack, StoreAddr, StoreReg, Push, LoadAddr, LoadReg, Pop, Swap, Jmp, JmpReg, Call, Ret, Jz, Jnz, Jc, Jnc, Jv, Jnv, Jlz, Jp, Jgz, Jleu, Jlt, Jle, LcdCmd, LcdImm, LcdReg, LcdMem, OutReg, OutMem, Hlt, Nop}
use Rattle.numbers.specs.Numbers.{fields_of, instr_of, encoding_of}

pub fields_inverse : (i : Instr) → instr_of (fields_of i) ≡ i
unfolding instr_of
fields_inverse (Alu d a f b) = refl
fields_inverse (AddImm d a i) = refl
fields_inverse (AluNone a f b) = refl
fields_inverse (CmpImm a i) = refl
fields_inverse (MaskImm a i) = refl
fields_inverse (MaskIn i) = refl
fields_inverse (MovImm d i) = refl
fields_inverse (MovIn d) = refl
fields_inverse Ack = refl
fields_inverse (StoreAddr a i) = refl
fields_inverse (StoreReg a b) = refl
fields_inverse (Push a) = refl
fields_inverse (LoadAddr d i) = refl
fields_inverse (LoadReg d a) = refl
fields_inverse (Pop d) = refl
fields_inverse (Swap d a) = refl
fields_inverse (Jmp i) = refl
fields_inverse (JmpReg a) = refl
fields_inverse (Call i) = refl
fields_inverse Ret = refl
fields_inverse (Jz i) = refl
fields_inverse (Jnz i) = refl
fields_inverse (Jc i) = refl
fields_inverse (Jnc i) = refl
fields_inverse (Jv i) = refl
fields_inverse (Jnv i) = refl
fields_inverse (Jlz i) = refl
fields_inverse (Jp i) = refl
fields_inverse (Jgz i) = refl
fields_inverse (Jleu i) = refl
fields_inverse (Jlt i) = refl
fields_inverse (Jle i) = refl
fields_inverse (LcdCmd i) = refl
fields_inverse (LcdImm i) = refl
fields_inverse (LcdReg a) = refl
fields_inverse (LcdMem i) = refl
fields_inverse (OutReg a) = refl
fields_inverse (OutMem i) = refl
fields_inverse Hlt = refl
fields_inverse Nop = refl

-- an answer's first number is 01's, and the two others are its bytes
pub number_checked : (cs : List Check) (e : Encoded) → FirstViolation cs (number_of e) → FirstViolation cs (encoding_of e).0
number_checked cs (Ok bytes) h = h
number_checked cs (Err refusal) h = h

pub bytes_held : (e : Encoded) → Accepted e → e ≡ Ok ((encoding_of e).1, (encoding_of e).2)
bytes_held e a = rw a.bytes

pub bytes_read_back : (i : Instr) (e : Encoded) → ReadsBack i e → (encoding_of e).0 ≡ 0 → decode_of (encoding_of e).1 (encoding_of e).2 ≡ i
bytes_read_back i (Ok bytes) h z = h bytes.0 bytes.1 refl
bytes_read_back i (Err BadBank) h z = absurd (omega arith)
bytes_read_back i (Err BadRegister) h z = absurd (omega arith)
bytes_read_back i (Err BadFunction) h z = absurd (omega arith)
