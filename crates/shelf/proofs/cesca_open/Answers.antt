-- The opener's outcome in numbers; what holds of all files is `Promised`'s.
use mathlib.Core.Path.{ap, ◌∙◌}
use Rattle.files.specs.Calls.{Outcome}
use Rattle.files.proofs.Promised.{promised}
use Rattle.shelf.specs.Exported.{opened_numbers}
use Rattle.shelf.proofs.cesca_open.Goals as goal

pub returns : goal.returns
returns c =
    let e = c.open_file.ensures in
    record { answers = c.from.ensures ∙ ap (λ (o : Outcome). opened_numbers o.answer) e; leaves = ap (λ (o : Outcome). o.buffers) e; promise = promised }
