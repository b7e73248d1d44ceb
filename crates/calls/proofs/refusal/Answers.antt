-- The tests are those of the definition, in its order.
use borrow.Author.Tests.{lt-ltb, le-ltb}
use Rattle.model.specs.Run.{max_budget, refusal_of}
use Rattle.calls.proofs.refusal.Goals as goal

pub returns-then-opcodes-n : goal.returns-then-opcodes-n
unfolding refusal_of
returns-then-opcodes-n c = rw c.if-opcodes-n.true

pub returns-then-keys-start : goal.returns-then-keys-start
unfolding refusal_of
returns-then-keys-start c = rw (c.if-opcodes-n.false, lt-ltb _ _ c.if-keys-start.true)

pub returns-then-budget-gt-MAX_BUDGET : goal.returns-then-budget-gt-MAX_BUDGET
unfolding refusal_of
returns-then-budget-gt-MAX_BUDGET c = rw (c.if-opcodes-n.false, le-ltb _ _ c.if-keys-start.false, lt-ltb max_budget _ c.if-budget-gt-MAX_BUDGET.true)

pub returns : goal.returns
unfolding refusal_of
returns c = rw (c.if-opcodes-n.false, le-ltb _ _ c.if-keys-start.false, le-ltb max_budget _ c.if-budget-gt-MAX_BUDGET.false)
