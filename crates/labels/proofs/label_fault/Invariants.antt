-- A line a turn: none before it repeats a label or uses a missing one.
use mathlib.Core.Path.{◌≡◌}
use Rattle.labels.specs.internal.Search.{is_faulty}
use Rattle.labels.proofs.Searches.{Searching}
use Rattle.labels.proofs.label_fault.Given as goal

abbrev pub invariant-loop-line : goal.invariant-loop-line
invariant-loop-line l = (l.line-iterator.text.now ≡ l.text) × Searching (is_faulty l.text) l.text l.line-iterator.at l.line-iterator.number
