use borrow.Author.Rules.{rules}
use borrow.Author.Tests.{lt-ltb, le-ltb}
use native.Mathlib.Omega.{arith}
use Rattle.labels.proofs.Sizes.{row_words}
use Rattle.labels.proofs.row_size.Goals as goal

pub returns-then-k-lt-FIRST_PAIR : goal.returns-then-k-lt-FIRST_PAIR
returns-then-k-lt-FIRST_PAIR c = row_words _ 1 (search rules) (omega arith) (rw (lt-ltb _ _ c.if-k-lt-FIRST_PAIR.true))

pub returns-then-k-lt-FIRST_TRIPLE : goal.returns-then-k-lt-FIRST_TRIPLE
returns-then-k-lt-FIRST_TRIPLE c = row_words _ 2 (search rules) (omega arith) (rw (le-ltb _ _ c.if-k-lt-FIRST_PAIR.false, lt-ltb _ _ c.if-k-lt-FIRST_TRIPLE.true))

pub returns : goal.returns
returns c = row_words _ 3 (search rules) (omega arith) (rw (le-ltb _ _ c.if-k-lt-FIRST_PAIR.false, le-ltb _ _ c.if-k-lt-FIRST_TRIPLE.false))
