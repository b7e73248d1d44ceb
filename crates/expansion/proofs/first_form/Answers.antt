use borrow.Author.Tests.{lt-ltb}
use Rattle.spelling.specs.Spellings.{forms_of}
use Rattle.expansion.proofs.first_form.Goals as goal

pub returns-then-k-lt-FIRST_MACRO : goal.returns-then-k-lt-FIRST_MACRO
unfolding forms_of
returns-then-k-lt-FIRST_MACRO c = λ at. rw (lt-ltb _ _ c.if-k-lt-FIRST_MACRO.true) c.table_form.ensures
