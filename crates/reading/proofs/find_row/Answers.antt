-- The rows before the one that is tried don't fit: each was tried, or begins with other bytes.
use mathlib.Core.Path.{refl, sym, ◌∙◌}
use native.Mathlib.Omega.{arith}
use Rattle.reading.proofs.Seeks.{few_fit_none, seek_other, seek_tried, seek_hits, seek_ends}
use Rattle.reading.proofs.find_row.Goals as goal

pub returns-then-n-start-lt3 : goal.returns-then-n-start-lt3
returns-then-n-start-lt3 c = let a = c.args in few_fit_none a.line.now a.start (omega (arith, c.if-n-start-lt3.true))

pub loop-row-preserved-then-not-begins : goal.loop-row-preserved-then-not-begins
loop-row-preserved-then-not-begins c =
    let a = c.args in seek_other a.line.now a.start refl refl refl c.loop-row.invariant c.loop-row-test.true (sym c.begins.ensures ∙ c.if-not-begins.true)

pub returns-then-s-n : goal.returns-then-s-n
returns-then-s-n c = seek_hits c.loop-row.invariant c.loop-row-test.true c.scan_row-s.ensures c.if-s-n.true

pub loop-row-preserved : goal.loop-row-preserved
loop-row-preserved c = seek_tried c.loop-row.invariant c.loop-row-test.true c.scan_row-s.ensures c.if-s-n.false

pub returns : goal.returns
returns c = seek_ends c.loop-row.invariant c.loop-row-test.false
