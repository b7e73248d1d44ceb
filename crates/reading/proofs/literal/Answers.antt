use Rattle.reading.specs.Reading.{literal_of}
use borrow.Author.Tests.{lt-ltb, le-ltb, eq-eqb, ne_eqb}
use Rattle.reading.proofs.literal.Goals as goal

pub returns-then-line-at : goal.returns-then-line-at
unfolding literal_of
returns-then-line-at c = simp (le-ltb _ _ c.if-line-at.true) c.fail.ensures

pub returns-then-line-at-2 : goal.returns-then-line-at-2
unfolding literal_of
returns-then-line-at-2 c = simp (lt-ltb _ _ c.if-line-at.false, eq-eqb _ _ c.if-line-at-2.true) c.scanned.ensures

pub returns : goal.returns
unfolding literal_of
returns c = simp (lt-ltb _ _ c.if-line-at.false, ne_eqb _ _ c.if-line-at-2.false) c.fail-2.ensures
