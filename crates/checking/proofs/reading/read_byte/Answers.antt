-- The field keeps the number a byte.
use native.Mathlib.Omega.{arith}
use mathlib.Core.Path.{sym}
use lib.ListN.{drop}
use Rattle.groups.proofs.Fields.{field_fits}
use Rattle.checking.proofs.reading.read_byte.Goals as goal

pub overflow_cast-result : goal.overflow_cast-result
overflow_cast-result c = omega (arith, (field_fits _ (drop c.args.at c.args.file.now) (sym c.in_ok-value.ensures.reads)).high)
