-- What each export for a single instruction promises, on numbers and lent memory.
-- Assumes nothing.
use Rattle.std.specs.Prelude.{ℕ, ◌≡◌, Bool, List, Ok}
use Rattle.slices.specs.Checks.{NoneBroken, FirstViolation}
use Rattle.alu.specs.Alu.{Computes}
use Rattle.alu.specs.declared.Computed.{Computed}
use Rattle.isa.specs.Decode.{decode_of}
use Rattle.isa.specs.Encode.{encode_checks, Valid, put_checks, encode_of, number_of, Accepted, put_of, opcodes_after, arguments_after, PutChecked}
use Rattle.isa.specs.RoundTrip.{Decodes}
use Rattle.isa.specs.declared.Instr.{Instr}
use Rattle.numbers.specs.Numbers.{fields_of, instr_of, encoding_of, computed_numbers}
use Rattle.numbers.specs.declared.ComputedNumbers.{ComputedNumbers}
use Rattle.numbers.specs.declared.Encoding.{Encoding}
use Rattle.numbers.specs.declared.Fields.{Fields}

-- the numbers of two bytes
pub record Decoded (op arg : ℕ) (r : Fields) : Type 0 where
  pub table : r ≡ fields_of (decode_of op arg)
  -- the form that they are keeps what decoding promises
  pub decodes : Decodes op arg (instr_of r)

-- the answer to an instruction to be encoded, as `Encodes` says it
pub record EncodedAs (x : Fields) (r : Encoding) : Type 0 where
  pub rule : r ≡ encoding_of (encode_of (instr_of x))
  -- a valid form is accepted
  pub accepted : Valid (instr_of x) → encode_of (instr_of x) ≡ Ok (r.1, r.2)
  -- "every other call is refused by the first rule it breaks"
  pub checked : FirstViolation (encode_checks (instr_of x)) r.0
  -- "instruction -> two bytes -> instruction is the identity"
  pub reads_back : r.0 ≡ 0 → decode_of r.1 r.2 ≡ instr_of x

-- the whole outcome of putting i into the banks ops and args at an address, as `Put` says it: 01's number, and both banks afterwards
pub record PutNumber (i : Instr) (ops args : List ℕ) (at number : ℕ) (ops' args' : List ℕ) : Type 0 where
  pub answers : number ≡ number_of (put_of i ops args)
  pub opcodes : ops' ≡ opcodes_after (put_of i ops args) ops at
  pub arguments : args' ≡ arguments_after (put_of i ops args) args at
  -- a valid form and two good banks are accepted
  pub accepted : NoneBroken (put_checks i ops args) → Accepted (put_of i ops args)
  -- "every other call is refused by the first rule it breaks", "and no lent byte changes"
  pub checked : PutChecked i ops args number ops' args'

-- the numbers of what function f gives
pub record ComputedAs (f x y : ℕ) (c : Bool) (r : ComputedNumbers) : Type 0 where
  pub computed : Computed
  pub computes : Computes f x y c computed
  pub numbers : r ≡ computed_numbers computed
