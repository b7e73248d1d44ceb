use Rattle.reading.proofs.Scans.{scan_stop, scan_dot, scan_full, scan_pass}
use Rattle.reading.specs.Reading.{read_of}
use borrow.Author.Rules.{rules}
use Rattle.reading.proofs.scan_row.Goals as goal

pub returns-then-not-ok : goal.returns-then-not-ok
unfolding read_of
returns-then-not-ok c = scan_stop c.loop-j.invariant c.if-not-ok.true

pub returns-then-c-eq46 : goal.returns-then-c-eq46
unfolding read_of
returns-then-c-eq46 c = scan_dot c.loop-j.invariant c.pattern-c.ensures c.if-c-eq46.true

pub loop-j-preserved : goal.loop-j-preserved
unfolding read_of
loop-j-preserved c = scan_pass c.loop-j.invariant c.pattern-c.ensures c.if-c-eq46.false c.scan_byte-s.ensures

pub returns : goal.returns
unfolding read_of
returns c = scan_full c.loop-j.invariant (search rules)
