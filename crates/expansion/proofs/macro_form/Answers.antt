use mathlib.Core.Path.{◌≡◌}
use native.Mathlib.Omega.{arith}
use Rattle.slices.proofs.Arms.{past}
use Rattle.spelling.specs.Spellings.{forms_of}
use Rattle.expansion.proofs.macro_form.Goals as goal

pub returns-in-0 : goal.returns-in-0
unfolding forms_of
returns-in-0 c = λ at. rw c.in-0.is

pub returns-in-1 : goal.returns-in-1
unfolding forms_of
returns-in-1 c = λ at. rw c.in-1.is

pub returns-in-2 : goal.returns-in-2
unfolding forms_of
returns-in-2 c = λ at. rw c.in-2.is

pub returns-in-3 : goal.returns-in-3
unfolding forms_of
returns-in-3 c = λ at. rw c.in-3.is

pub returns-in-4 : goal.returns-in-4
unfolding forms_of
returns-in-4 c = λ at. rw c.in-4.is

pub returns-in-5 : goal.returns-in-5
unfolding forms_of
returns-in-5 c = λ at. rw c.in-5.is

pub returns-in-6 : goal.returns-in-6
unfolding forms_of
returns-in-6 c = λ at. rw c.in-6.is

pub returns-in-7 : goal.returns-in-7
unfolding forms_of
returns-in-7 c = λ at. rw c.in-7.is

pub returns-in-8 : goal.returns-in-8
unfolding forms_of
returns-in-8 c = λ at. rw c.in-8.is

pub returns-in-9 : goal.returns-in-9
unfolding forms_of
returns-in-9 c = λ at. rw c.in-9.is

pub returns-in-10 : goal.returns-in-10
unfolding forms_of
returns-in-10 c = λ at. rw c.in-10.is

pub returns-in-11 : goal.returns-in-11
unfolding forms_of
returns-in-11 c = λ at. rw c.in-11.is

pub returns-in-12 : goal.returns-in-12
unfolding forms_of
returns-in-12 c = λ at. rw c.in-12.is

pub returns-in-13 : goal.returns-in-13
unfolding forms_of
returns-in-13 c = λ at. rw c.in-13.is

pub returns-in-14 : goal.returns-in-14
unfolding forms_of
returns-in-14 c = λ at. rw c.in-14.is

pub returns-in-15 : goal.returns-in-15
unfolding forms_of
returns-in-15 c = λ at. rw c.in-15.is

pub returns-in-16 : goal.returns-in-16
unfolding forms_of
returns-in-16 c = λ at. rw c.in-16.is

pub returns-in-17 : goal.returns-in-17
unfolding forms_of
returns-in-17 c = λ at. rw c.in-17.is

pub returns-in-18 : goal.returns-in-18
unfolding forms_of
returns-in-18 c = λ at. rw c.in-18.is

pub returns-in_default : goal.returns-in_default
unfolding forms_of
returns-in_default c = λ at. let e : c.args.m ≡ 19 = omega (arith, past _ 19 c.in_default.in_default-own.rest, c.requires) in rw e
