-- A line a turn: all before it are good, their words are counted, and their addresses are noted.
use mathlib.Core.Path.{◌≡◌}
use Rattle.labels.proofs.Inspects.{Inspecting}
use Rattle.labels.proofs.inspect.Given as goal

abbrev pub invariant-loop-line : goal.invariant-loop-line
invariant-loop-line l = (l.line-iterator.text.now ≡ l.text) × Inspecting l.text l.line-iterator.at l.line-iterator.number l.words l.addresses
