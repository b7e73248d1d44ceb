use native.Mathlib.Omega.{arith}
use mathlib.Core.Path.{sym, ◌∙◌}
use Rattle.labels.specs.Lines.{lines_of}
use Rattle.labels.proofs.Numbered.{number_told, none_told, none_there}
use Rattle.words.proofs.Counts.{address_none, address_held}
use Rattle.words.proofs.address.Goals as goal

pub returns-in_default : goal.returns-in_default
returns-in_default c = address_none c.args.name.now (lines_of c.args.text.now) (none_told c.given_at.ensures (none_there _ c.in_default.not-Some))

pub overflow_sub-line : goal.overflow_sub-line
overflow_sub-line c = let s = number_told c.given_at.ensures c.in-Some.is in omega (arith, s.0, s.1)

pub returns : goal.returns
returns c =
    let s = number_told c.given_at.ensures c.in-Some.is in
    c.byte_at.ensures ∙ address_held c.args.name.now c.requires.1 s.0 (λ z. s.1 (sym s.0 ∙ z))
