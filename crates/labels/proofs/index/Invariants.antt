-- A line a turn is entered.
use mathlib.Core.Path.{◌≡◌}
use Rattle.labels.proofs.Indexes.{Indexing}
use Rattle.labels.proofs.index.Given as goal

abbrev pub invariant-loop-line : goal.invariant-loop-line
invariant-loop-line l = (l.line-iterator.text.now ≡ l.text) × Indexing l.text l.line-iterator.at l.line-iterator.number l.starts l.numbers
