use mathlib.Core.Path.{◌≡◌}
use native.Mathlib.Omega.{arith}
use Rattle.spelling.specs.Spellings.{forms_of}
use Rattle.expansion.proofs.Rows.{third_jumps}
use Rattle.expansion.proofs.third_form.Goals as goal

pub returns-then-k-lt89 : goal.returns-then-k-lt89
unfolding forms_of
returns-then-k-lt89 c = third_jumps c.args.k c.args.to c.requires.0 c.if-k-lt89.true

pub returns : goal.returns
unfolding forms_of
returns c = λ p at. let e : c.args.k ≡ 89 = omega (arith, c.if-k-lt89.false, c.requires.1) in rw e
