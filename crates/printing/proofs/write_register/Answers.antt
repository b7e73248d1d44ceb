-- "R", and the number behind it.
use mathlib.Core.Path.{ap, ◌∙◌}
use Rattle.pages.specs.Page.{write_of}
use Rattle.pages.specs.Text.{decimal}
use Rattle.printing.proofs.write_register.Goals as goal

pub returns : goal.returns
unfolding write_of
returns c =
    let a = c.args in
    (rw c.from.ensures at c.write_decimal.ensures.text.left) ∙ ap (write_of (decimal a.r)) c.put-next.ensures
