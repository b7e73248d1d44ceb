-- The first of three numbers that is refused gives the answer.
use native.Mathlib.Omega.{arith}
use mathlib.Core.Path.{sym}
use mathlib.Core.List.{List, [], ◌∷◌}
use lib.ListN.{drop}
use Rattle.groups.specs.Fields.{Field}
use Rattle.groups.proofs.Fields.{field_fits}
use Rattle.groups.proofs.Readings.{handed_on}
use Rattle.groups.proofs.Rows.{field_stops, then_stops, then_ends, one_field}
use Rattle.files.specs.File.{byte_field, word_field}
use Rattle.checking.proofs.reading.read_address.Goals as goal

-- the fields behind the opcode
abbrev behind : List Field
behind = byte_field ∷ word_field ∷ []

pub returns-in_err-opcode : goal.returns-in_err-opcode
returns-in_err-opcode c =
    rw (handed_on c.from_residual.result c.from_residual.ensures.1) (field_stops byte_field behind c.in_err-opcode.ensures)

pub returns-in_err-argument : goal.returns-in_err-argument
returns-in_err-argument c =
    rw (handed_on c.from_residual-in_err-argument.result c.from_residual-in_err-argument.ensures.1) (then_stops byte_field behind c.in_ok-opcode.ensures (field_stops byte_field (word_field ∷ []) c.in_err-argument.ensures))

pub returns-in_err-word : goal.returns-in_err-word
returns-in_err-word c =
    rw (handed_on c.from_residual-in_err-word.result c.from_residual-in_err-word.ensures.1) (then_stops byte_field behind c.in_ok-opcode.ensures (then_stops byte_field (word_field ∷ []) c.in_ok-argument.ensures (field_stops word_field [] c.in_err-word.ensures)))

pub overflow_cast-address : goal.overflow_cast-address
overflow_cast-address c = omega (arith, (field_fits word_field (drop c.in_ok-argument.after_argument c.args.file.now) (sym c.in_ok-word.ensures.reads)).high)

pub returns : goal.returns
returns c =
    then_ends byte_field behind c.in_ok-opcode.ensures (then_ends byte_field (word_field ∷ []) c.in_ok-argument.ensures (one_field word_field c.in_ok-word.ensures))
