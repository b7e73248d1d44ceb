-- The writer's outcome in numbers; what holds of all files is `Promised`'s.
use mathlib.Core.Path.{ap, ◌∙◌}
use Rattle.files.specs.Calls.{Written}
use Rattle.files.proofs.Promised.{promised}
use Rattle.shelf.specs.Exported.{shelved_numbers}
use Rattle.shelf.proofs.cesca_shelve.Goals as goal

pub returns : goal.returns
returns c =
    let e = c.shelve.ensures in
    record { answers = c.from.ensures ∙ ap (λ (w : Written). shelved_numbers w.answer) e; leaves = ap (λ (w : Written). w.out) e; promise = promised }
