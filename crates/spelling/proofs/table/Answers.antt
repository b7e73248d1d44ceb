use mathlib.Core.Path.{refl}
use Rattle.spelling.specs.Spellings.{spellings}
use Rattle.spelling.specs.internal.Rows.{pad, flatten, table_bytes}
use Rattle.spelling.proofs.table.Goals as goal

pub returns : goal.returns
unfolding table_bytes flatten pad spellings
returns c = refl
