-- What decoding two bytes and encoding an instruction promise; above all the second demand's sentences: "instruction -> two bytes ->
-- instruction is the identity; two bytes read and written again differ only in free bits".
-- Assumes nothing.
use Rattle.std.specs.Prelude.{ℕ, ◌/◌, ◌%◌, ◌≡◌, true, Ok}
use Rattle.slices.specs.Checks.{FirstViolation}
use Rattle.isa.specs.Decode.{forms, matches, rows_for, decode_of}
use Rattle.isa.specs.Encode.{encode_checks, Valid, Encoded, encode_of, number_of, Accepted}
use Rattle.isa.specs.Free.{cleared_of}
use Rattle.isa.specs.Table.{row_of, opcode_in}
use Rattle.isa.specs.declared.Instr.{Instr}

-- the bytes that an answer for i holds, if any, decode to i
abbrev pub ReadsBack : Instr → Encoded → Type 0
ReadsBack i e = (op arg : ℕ) → e ≡ Ok (op, arg) → decode_of op arg ≡ i

-- i encodes to the two bytes with the free bits of its row cleared, so it is not refused
abbrev pub WritesBack : ℕ → ℕ → Instr → Type 0
WritesBack op arg i = encode_of i ≡ cleared_of (row_of i) op arg

-- 01: "All 256 opcodes are assigned, to forty forms": of the forty rows, whatever stands at their letters, an opcode's fixed bits are those of
-- one, and it is the row of i
pub record Assigned (op : ℕ) (i : Instr) : Type 0 where
  pub one_row : (d a f b n : ℕ) → rows_for (op / 16) (op / 4 % 4) (forms d a f b n) ≡ 1
  pub its_row : matches (op / 16) (op / 4 % 4) (opcode_in (row_of i)) ≡ true

pub record Decodes (op arg : ℕ) (i : Instr) : Type 0 where
  -- "the fields are those of 003's table"
  pub table : i ≡ decode_of op arg
  -- "All 256 opcodes are assigned, to forty forms"
  pub assigned : Assigned op i
  -- its register and function numbers are in range
  pub valid : Valid i
  -- "two bytes read and written again differ only in free bits"
  pub writes_back : WritesBack op arg i

pub record Encodes (i : Instr) (e : Encoded) : Type 0 where
  -- the bytes of its row, or its refusal
  pub rule : e ≡ encode_of i
  -- a valid form is accepted
  pub accepted : Valid i → Accepted e
  -- "every other call is refused by the first rule it breaks"
  pub checked : FirstViolation (encode_checks i) (number_of e)
  -- "instruction -> two bytes -> instruction is the identity"
  pub reads_back : ReadsBack i e
