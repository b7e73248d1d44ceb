-- An address a turn, from the last on: those passed are blank.
use native.Mathlib.Omega.{arith}
use mathlib.Core.Path.{sym, ◌∙◌}
use Rattle.shelving.proofs.Counting.{count_stops, count_goes, count_ends}
use Rattle.shelving.proofs.Parts.least.Goals as goal

pub returns-then-not-is_blank : goal.returns-then-not-is_blank
returns-then-not-is_blank c = omega (arith, c.loop-a-test.true, count_stops c.loop-a.invariant c.loop-a-test.true (sym c.is_blank.ensures ∙ c.if-not-is_blank.true))

pub loop-a-preserved : goal.loop-a-preserved
loop-a-preserved c = count_goes c.loop-a.invariant c.loop-a-test.true (sym c.is_blank.ensures ∙ c.if-not-is_blank.false)

pub returns : goal.returns
returns c = count_ends c.loop-a.invariant c.loop-a-test.false
