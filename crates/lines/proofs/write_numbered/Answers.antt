-- The number stands behind the text.
use native.Mathlib.Nat.{le_refl}
use Rattle.lines.specs.Lines.{numbered}
use Rattle.pages.proofs.Pages.{texts_written}
use Rattle.lines.proofs.write_numbered.Goals as goal

pub returns : goal.returns
unfolding numbered
returns c =
    texts_written
    (record { left = c.write-next.ensures; short = le_refl _ })
    c.write_decimal.ensures.text
