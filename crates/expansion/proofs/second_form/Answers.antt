use mathlib.Core.Path.{◌≡◌}
use native.Mathlib.Omega.{arith}
use Prim.Native.Nat.{◌+◌}
use Rattle.slices.proofs.Arms.{past}
use Rattle.spelling.specs.Spellings.{forms_of}
use Rattle.expansion.proofs.Rows.{last_row}
use Rattle.expansion.proofs.second_form.Goals as goal

pub returns-in-0 : goal.returns-in-0
unfolding forms_of
returns-in-0 c = λ p. let e : c.args.k ≡ 81 = omega (arith, c.in-0.is) in rw e

pub returns-in-1 : goal.returns-in-1
unfolding forms_of
returns-in-1 c = λ p. let e : c.args.k ≡ 82 = omega (arith, c.in-1.is) in rw e

pub returns-in-2 : goal.returns-in-2
unfolding forms_of
returns-in-2 c = λ p. let e : c.args.k ≡ 83 = omega (arith, c.in-2.is) in rw e

pub returns-in-3 : goal.returns-in-3
unfolding forms_of
returns-in-3 c = λ p. let e : c.args.k ≡ 84 = omega (arith, c.in-3.is) in rw e

pub returns-in-4 : goal.returns-in-4
unfolding forms_of
returns-in-4 c = λ p. let e : c.args.k ≡ 85 = omega (arith, c.in-4.is) in rw e

pub returns-in-5 : goal.returns-in-5
unfolding forms_of
returns-in-5 c = λ p. let e : c.args.k ≡ 86 = omega (arith, c.in-5.is) in let s : c.args.at + 1 + 2 ≡ c.args.at + 3 = omega arith in rw (e, s)

pub returns-in-6 : goal.returns-in-6
unfolding forms_of
returns-in-6 c = λ p. let e : c.args.k ≡ 87 = omega (arith, c.in-6.is) in let s : c.args.at + 1 + 2 ≡ c.args.at + 3 = omega arith in rw (e, s)

pub returns-in-7 : goal.returns-in-7
unfolding forms_of
returns-in-7 c = λ p. let e : c.args.k ≡ 88 = omega (arith, c.in-7.is) in let s : c.args.at + 1 + 2 ≡ c.args.at + 3 = omega arith in rw (e, s)

pub returns-in_default : goal.returns-in_default
unfolding forms_of
returns-in_default c = λ p. rw (last_row c.args.k (past _ 8 c.in_default.in_default-own.rest) c.requires.1)
