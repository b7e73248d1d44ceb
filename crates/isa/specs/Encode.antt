-- Encoding: the two bytes of an instruction, or the refusal 22 or 23 of 01; and putting them into the two banks, or also the refusal 1.
-- Assumes nothing.
use Rattle.std.specs.Prelude.{ℕ, ◌+◌, ◌*◌, ◌%◌, ◌≡◌, Bool, false, cond, ◌||◌, List, [], ◌∷◌, ltb, set, Result, Ok, Err}
use Rattle.slices.specs.Checks.{Check, check, NoneBroken, FirstViolation}
use Rattle.slices.specs.Sizes.{bad_bank}
use Rattle.isa.specs.Table.{row_of, opcode_in, argument_in}
use Rattle.isa.specs.declared.Argument.{Argument}
use Rattle.isa.specs.declared.Argument.TheVariants.{FFFFXXBB, IIIIIIII, XXXXXXBB, XXXXXXXX}
use Rattle.isa.specs.declared.EncodeError.{EncodeError}
use Rattle.isa.specs.declared.EncodeError.TheVariants.{BadBank, BadRegister, BadFunction}
use Rattle.isa.specs.declared.Instr.{Instr}
use Rattle.isa.specs.declared.Opcode.{Opcode}
use Rattle.isa.specs.declared.Opcode.TheVariants.{DDAA, DDXX, OOAA, OOXX}
use Rattle.isa.specs.declared.Row.{Row}

-- 22: "a register number over 3"
abbrev pub bad_in_opcode : Opcode → Bool
bad_in_opcode (DDAA p d a) = ltb 3 d || ltb 3 a
bad_in_opcode (DDXX p d) = ltb 3 d
bad_in_opcode (OOAA p a) = ltb 3 a
bad_in_opcode (OOXX p) = false

abbrev pub bad_in_argument : Argument → Bool
bad_in_argument (FFFFXXBB f b) = ltb 3 b
bad_in_argument (IIIIIIII i) = false
bad_in_argument (XXXXXXBB b) = ltb 3 b
bad_in_argument XXXXXXXX = false

abbrev pub bad_register : Row → Bool
bad_register r = bad_in_opcode (opcode_in r) || bad_in_argument (argument_in r)

-- 23: "a function number over 15"
abbrev pub bad_function : Argument → Bool
bad_function (FFFFXXBB f b) = ltb 15 f
bad_function (IIIIIIII i) = false
bad_function (XXXXXXBB b) = false
bad_function XXXXXXXX = false

-- what is asked of a form to be encoded, in 01's order; a call's checks have place 0
abbrev pub encode_checks : Instr → List Check
encode_checks i = check 22 0 (bad_register (row_of i)) ∷ check 23 0 (bad_function (argument_in (row_of i))) ∷ []

-- a form whose register numbers are at most 3 and whose function number is at most 15
abbrev pub Valid : Instr → Type 0
Valid i = NoneBroken (encode_checks i)

-- what is asked of a form to be put into the two banks: first 1, "The opcode or argument bank isn't 256 bytes"
abbrev pub put_checks : Instr → List ℕ → List ℕ → List Check
put_checks i ops args = check 1 0 (bad_bank ops || bad_bank args) ∷ encode_checks i

-- the fixed bits and the letters at their places in eight bits. 01: free bits "are 0 when written"
abbrev pub opcode_byte : Opcode → ℕ
opcode_byte (DDAA p d a) = p * 16 % 256 + d * 4 + a
opcode_byte (DDXX p d) = p * 16 % 256 + d * 4
opcode_byte (OOAA p a) = p * 4 % 256 + a
opcode_byte (OOXX p) = p * 4 % 256

abbrev pub argument_byte : Argument → ℕ
argument_byte (FFFFXXBB f b) = f * 16 + b
argument_byte (IIIIIIII i) = i
argument_byte (XXXXXXBB b) = b
argument_byte XXXXXXXX = 0

-- the answer to an instruction: its opcode byte and its argument byte, or why there are none
abbrev pub Encoded : Type 0
Encoded = Result (ℕ × ℕ) EncodeError

-- 01: "the lowest number that applies first"
unfoldable pub join_of : Row → Encoded
join_of r =
    cond (bad_register r) (Err BadRegister)
    (cond (bad_function (argument_in r)) (Err BadFunction) (Ok (opcode_byte (opcode_in r), argument_byte (argument_in r))))

unfoldable pub encode_of : Instr → Encoded
encode_of i = join_of (row_of i)

-- 01's number for each case of the answer, 0 where nothing is refused
abbrev pub number_of : Encoded → ℕ
number_of (Ok bytes) = 0
number_of (Err BadBank) = 1
number_of (Err BadRegister) = 22
number_of (Err BadFunction) = 23

-- a good call's answer: two bytes
pub record Accepted (e : Encoded) : Type 0 where
  pub opcode : ℕ
  pub argument : ℕ
  pub bytes : e ≡ Ok (opcode, argument)

-- the answer to an instruction put into the two banks
unfoldable pub put_of : Instr → List ℕ → List ℕ → Encoded
put_of i ops args = cond (bad_bank ops || bad_bank args) (Err BadBank) (encode_of i)

-- what an answer leaves in either bank: its byte at the address, or, for a refusal, the bank as it was
abbrev pub opcodes_after : Encoded → List ℕ → ℕ → List ℕ
opcodes_after (Ok bytes) bank at = set bank at bytes.0
opcodes_after (Err refusal) bank at = bank

abbrev pub arguments_after : Encoded → List ℕ → ℕ → List ℕ
arguments_after (Ok bytes) bank at = set bank at bytes.1
arguments_after (Err refusal) bank at = bank

-- the first demand of a call to put i, which answers a number
pub record PutChecked (i : Instr) (ops args : List ℕ) (number : ℕ) (ops' args' : List ℕ) : Type 0 where
  -- "every other call is refused by the first rule it breaks"
  pub first : FirstViolation (put_checks i ops args) number
  -- "and no lent byte changes"
  pub opcodes_kept : (NoneBroken (put_checks i ops args) → ⊥) → ops' ≡ ops
  pub arguments_kept : (NoneBroken (put_checks i ops args) → ⊥) → args' ≡ args

-- the whole outcome of putting i into the banks ops and args at an address: the answer, and both banks afterwards
pub record Put (i : Instr) (ops args : List ℕ) (at : ℕ) (answer : Encoded) (ops' args' : List ℕ) : Type 0 where
  pub answers : answer ≡ put_of i ops args
  pub opcodes : ops' ≡ opcodes_after (put_of i ops args) ops at
  pub arguments : args' ≡ arguments_after (put_of i ops args) args at
  -- a valid form and two good banks are accepted
  pub accepted : NoneBroken (put_checks i ops args) → Accepted answer
  pub checked : PutChecked i ops args (number_of answer) ops' args'
