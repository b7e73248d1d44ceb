-- Refused by the encoder's number, or the text over spaces.
use mathlib.Core.Path.{sym, ap, ◌∙◌}
use native.Mathlib.Omega.{arith}
use Rattle.isa.specs.Encode.{number_of}
use Rattle.printing.proofs.Answers.{refused, printed_length, printed}
use Rattle.printing.proofs.Bytes.{fields_bytes}
use Rattle.printing.proofs.print.Goals as goal

pub returns-then-number-ne0 : goal.returns-then-number-ne0
returns-then-number-ne0 c =
    let i = c.args.instr in
    refused i c.number-number.result (fields_bytes i c.well_formed.0) (c.number-number.ensures ∙ ap number_of c.encode.ensures.rule) c.if-number-ne0.true

pub overflow_cast-result : goal.overflow_cast-result
overflow_cast-result c =
    let i = c.args.instr in
    record { fits = omega (arith, printed_length i (fields_bytes i c.well_formed.0) c.write_text-length.ensures) }

pub returns : goal.returns
returns c =
    let i = c.args.instr in
    printed i (fields_bytes i c.well_formed.0) c.write_text-length.ensures (sym (c.number-number.ensures ∙ ap number_of c.encode.ensures.rule) ∙ c.if-number-ne0.false)
