-- A line without the colon, or with another last letter, gives another name or none.
use borrow.Author.Rules.{rules}
use mathlib.Core.Path.{sym, ◌∙◌}
use Rattle.labels.proofs.Names.{no_colon, other_last}
use Rattle.labels.proofs.gives.Goals as goal

pub returns-then-byte_at-ne58 : goal.returns-then-byte_at-ne58
returns-then-byte_at-ne58 c = let a = c.args in sym (no_colon a.line.now a.name.now (search rules) (λ e. c.if-byte_at-ne58.true (c.byte_at.ensures ∙ e)))

pub returns-then-byte_at-name : goal.returns-then-byte_at-name
returns-then-byte_at-name c = let a = c.args in sym (other_last a.line.now a.name.now (search rules) (λ e. c.if-byte_at-name.true (c.byte_at-2.ensures ∙ e)))
