-- Each arm is a row of the table. The last arm is the last row, which is also the answer past it. What V
-- means, and what eight rols give, follows from the table.
use Rattle.std.proofs.Common.{ℕ, Bool, List, take, refl, ◌∙◌}
use Rattle.slices.proofs.Arms.{past}
use Rattle.slices.proofs.Lookup.{get_d_last}
use Rattle.alu.specs.Alu.{functions, alu_of}
use Rattle.alu.specs.declared.Computed.{Computed}
use Rattle.alu.proofs.Signed.{computes}
use Rattle.alu.proofs.Wraps.{same_computed}
use Rattle.alu.proofs.alu.Goals as goal

abbrev first_fifteen : ℕ → ℕ → Bool → List Computed
first_fifteen x y c = take 15 (functions x y c)

pub returns-in-0 : goal.returns-in-0
unfolding alu_of
returns-in-0 c = let g = c.ranges in computes g.x.fits g.y.fits (rw c.in-0.is c.copied.ensures)

pub returns-in-1 : goal.returns-in-1
unfolding alu_of
returns-in-1 c = let g = c.ranges in computes g.x.fits g.y.fits (rw c.in-1.is c.sum.ensures)

pub returns-in-2 : goal.returns-in-2
unfolding alu_of
returns-in-2 c = let g = c.ranges in computes g.x.fits g.y.fits (rw c.in-2.is c.difference.ensures)

pub returns-in-3 : goal.returns-in-3
unfolding alu_of
returns-in-3 c = let g = c.ranges in computes g.x.fits g.y.fits (rw c.in-3.is c.sum-in-3.ensures)

pub returns-in-4 : goal.returns-in-4
unfolding alu_of
returns-in-4 c = let g = c.ranges in computes g.x.fits g.y.fits (rw c.in-4.is c.difference-in-4.ensures)

pub returns-in-5 : goal.returns-in-5
unfolding alu_of
returns-in-5 c = let g = c.ranges in computes g.x.fits g.y.fits (rw c.in-5.is c.plain.ensures)

pub returns-in-6 : goal.returns-in-6
unfolding alu_of
returns-in-6 c = let g = c.ranges in computes g.x.fits g.y.fits (rw c.in-6.is c.plain-in-6.ensures)

pub returns-in-7 : goal.returns-in-7
unfolding alu_of
returns-in-7 c = let g = c.ranges in computes g.x.fits g.y.fits (rw c.in-7.is c.plain-in-7.ensures)

pub returns-in-8 : goal.returns-in-8
unfolding alu_of
returns-in-8 c = let g = c.ranges in computes g.x.fits g.y.fits (rw c.in-8.is c.plain-in-8.ensures)

pub returns-in-9 : goal.returns-in-9
unfolding alu_of
returns-in-9 c = let g = c.ranges in computes g.x.fits g.y.fits (rw c.in-9.is c.plain-in-9.ensures)

pub returns-in-10 : goal.returns-in-10
unfolding alu_of
returns-in-10 c = let g = c.ranges in computes g.x.fits g.y.fits (rw c.in-10.is c.plain-in-10.ensures)

pub returns-in-11 : goal.returns-in-11
unfolding alu_of
returns-in-11 c = let g = c.ranges in computes g.x.fits g.y.fits (rw c.in-11.is c.plain-in-11.ensures)

pub returns-in-12 : goal.returns-in-12
unfolding alu_of
returns-in-12 c = let g = c.ranges in computes g.x.fits g.y.fits (rw c.in-12.is (c.shifted_left.ensures ∙ same_computed c.shift_left.ensures refl refl))

pub returns-in-13 : goal.returns-in-13
unfolding alu_of
returns-in-13 c = let g = c.ranges in computes g.x.fits g.y.fits (rw c.in-13.is (c.plain-in-13.ensures ∙ same_computed c.shift_right.ensures refl refl))

pub returns-in-14 : goal.returns-in-14
unfolding alu_of
returns-in-14 c = let g = c.ranges in computes g.x.fits g.y.fits (rw c.in-14.is (c.plain-in-14.ensures ∙ same_computed c.shift_right_signed.ensures refl refl))

pub returns-in_default : goal.returns-in_default
unfolding alu_of
returns-in_default c =
    let a = c.args in
    let g = c.ranges in
    computes g.x.fits g.y.fits
    (rw (get_d_last (first_fifteen a.x a.y a.c) _ _ (past _ 15 c.in_default.in_default-own.rest))
    (c.shifted_left-in_default.ensures ∙ same_computed c.rotate_left.ensures refl refl))
