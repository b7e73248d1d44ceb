-- A line a turn, from the entry of the name's number on: none before it gives the name.
use mathlib.Core.Path.{◌≡◌}
use Rattle.labels.proofs.Searches.{Looking}
use Rattle.labels.proofs.given_at.Given as goal

abbrev pub invariant-loop-line : goal.invariant-loop-line
invariant-loop-line l = (l.line-iterator.text.now ≡ l.text) × Looking l.name l.text l.line-iterator.at l.line-iterator.number
