-- Each test of the code is one of the definition.
use borrow.Author.Tests.{eq-eqb, ne_eqb}
use Rattle.pages.specs.Page.{write_of}
use Rattle.printing.specs.Print.{shown_at}
use Rattle.printing.proofs.write_shown.Goals as goal

pub returns-then-c-eq88 : goal.returns-then-c-eq88
unfolding shown_at write_of
returns-then-c-eq88 c = simp (eq-eqb _ _ c.if-c-eq88.true) c.write_register.ensures

pub returns-then-c-eq89 : goal.returns-then-c-eq89
unfolding shown_at write_of
returns-then-c-eq89 c = simp (ne_eqb _ _ c.if-c-eq88.false, eq-eqb _ _ c.if-c-eq89.true) c.write_register-then-c-eq89.ensures

pub returns-then-c-eq90 : goal.returns-then-c-eq90
unfolding shown_at write_of
returns-then-c-eq90 c = simp (ne_eqb _ _ c.if-c-eq88.false, ne_eqb _ _ c.if-c-eq89.false, eq-eqb _ _ c.if-c-eq90.true) c.write_register-then-c-eq90.ensures

pub returns-then-c : goal.returns-then-c
unfolding shown_at write_of
returns-then-c c = simp (ne_eqb _ _ c.if-c-eq88.false, ne_eqb _ _ c.if-c-eq89.false, ne_eqb _ _ c.if-c-eq90.false, c.if-c.true) (rw c.from.ensures at c.write_decimal.ensures.text.left)

pub returns : goal.returns
unfolding shown_at write_of
returns c = simp (ne_eqb _ _ c.if-c-eq88.false, ne_eqb _ _ c.if-c-eq89.false, ne_eqb _ _ c.if-c-eq90.false, c.if-c.false) c.put.ensures
