-- An instruction encoded and decoded, and two bytes decoded and encoded, from what the exports promise.
-- Assumes nothing.
use mathlib.Core.Path.{◌≡◌, refl, sym, ap, ◌∙◌}
use Prim.Native.Nat.{ℕ}
use mathlib.Core.List.{List}
use Rattle.std.specs.Prelude.{Ok, Err}
use Rattle.isa.specs.Encode.{Encoded, encode_of, put_of}
use Rattle.numbers.specs.Numbers.{fields_of, instr_of, encoding_of}
use Rattle.boundary.specs.Exports.{Decoded, EncodedAs, PutNumber}
use Rattle.numbers.specs.declared.Encoding.{Encoding}
use Rattle.numbers.specs.declared.Fields.{Fields}
use Rattle.demands.specs.First.{FirstOfEncode, FirstOfPut}
use Rattle.demands.specs.Second.{InstructionReturns, BytesReturn}

pub instruction_returns : (x : Fields) (r : Encoding) (y : Fields) → EncodedAs x r → Decoded r.1 r.2 y → InstructionReturns x y
instruction_returns x r y e d p =
    let q = e.reads_back (e.checked.accepts p) in
    (d.decodes.table ∙ q, d.table ∙ ap fields_of q)

pub bytes_return : (op arg : ℕ) (x : Fields) (r : Encoding) → Decoded op arg x → EncodedAs x r → BytesReturn op arg r
bytes_return op arg x r d e =
    let v = d.decodes.valid in
    (e.checked.accepts v, sym (e.accepted v) ∙ rw (← d.decodes.table) d.decodes.writes_back)

-- ---- an instruction encoded, and put

encoding_alone : (a : Encoded) → ((encoding_of a).0 ≡ 0 → ⊥) → encoding_of a ≡ ((encoding_of a).0, 0, 0)
encoding_alone (Ok bytes) h = absurd (h refl)
encoding_alone (Err refusal) h = refl

pub encode_first : (x : Fields) (r : Encoding) → EncodedAs x r → FirstOfEncode x r
encode_first x r e =
    record {
      decided = record { accepted = e.checked.accepts; refused = e.checked.refuses };
      nothing_else = rw e.rule (encoding_alone (encode_of (instr_of x)));
    }

pub put_first : (x : Fields) (ops args : List ℕ) (at n : ℕ) (ops' args' : List ℕ) → PutNumber (instr_of x) ops args at n ops' args'
    → FirstOfPut x ops args at n ops' args'
unfolding put_of
put_first x ops args at n ops' args' p =
    record {
      decided = record { accepted = p.checked.first.accepts; refused = p.checked.first.refuses };
      opcode_put = λ g. p.opcodes ∙ rw g.0;
      argument_put = λ g. p.arguments ∙ rw g.0;
      opcodes_kept = p.checked.opcodes_kept;
      arguments_kept = p.checked.arguments_kept;
    }
