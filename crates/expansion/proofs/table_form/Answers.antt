use borrow.Author.Tests.{lt-ltb, le-ltb, eq-eqb, ne_eqb}
use Rattle.spelling.specs.Spellings.{table_form}
use Rattle.expansion.proofs.table_form.Goals as goal

pub returns-then-k-lt16 : goal.returns-then-k-lt16
unfolding table_form
returns-then-k-lt16 c = simp (lt-ltb _ _ c.if-k-lt16.true, ← c.number_in-number.ensures) c.from.ensures

pub returns-then-k-eq16 : goal.returns-then-k-eq16
unfolding table_form
returns-then-k-eq16 c = simp (le-ltb _ _ c.if-k-lt16.false, eq-eqb _ _ c.if-k-eq16.true, ← c.number_in-number.ensures) c.from-then-k-eq16.ensures

pub returns-then-k-lt33 : goal.returns-then-k-lt33
unfolding table_form
returns-then-k-lt33 c = simp (le-ltb _ _ c.if-k-lt16.false, ne_eqb _ _ c.if-k-eq16.false, lt-ltb _ _ c.if-k-lt33.true, ← c.number_in-number.ensures) c.from-then-k-lt33.ensures

pub returns : goal.returns
unfolding table_form
returns c = simp (le-ltb _ _ c.if-k-lt16.false, ne_eqb _ _ c.if-k-eq16.false, le-ltb _ _ c.if-k-lt33.false, ← c.number_in-number.ensures) c.from-2.ensures
