-- The numbers of what was decoded, which are those of that instruction alone.
use mathlib.Core.Path.{ap, ◌∙◌}
use Rattle.numbers.specs.Numbers.{fields_of}
use Rattle.numbers.proofs.FieldsInverse.{fields_inverse}
use Rattle.boundary.proofs.cesca_decode.Goals as goal

pub returns : goal.returns
returns c =
    let d = c.decode.ensures in
    record {
      table = c.from.ensures ∙ ap fields_of d.table;
      decodes = rw (c.from.ensures, fields_inverse) d;
    }
