-- A space a turn up to the digits, and the number behind them.
use Rattle.pages.specs.Page.{page}
use Rattle.pages.specs.Text.{decimal}
use Rattle.pages.proofs.Alignment.{Aligning}
use Rattle.pages.proofs.columns.write_right.Given as goal

abbrev pub invariant-loop-column : goal.invariant-loop-column
invariant-loop-column l = Aligning l.width (decimal l.n) (page l.initial.out l.at) l._column (page l.out l.next)
