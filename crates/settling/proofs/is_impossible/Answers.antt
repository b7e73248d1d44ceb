-- An arm a class.
use lib.Dec.{eqb, ltb}
use mathlib.Core.Bool.{◌||◌}
use mathlib.Core.Path.{refl}
use Rattle.drawings.specs.internal.Impossible.{impossible}
use Rattle.settling.proofs.Hindrances.{and_true, and_off, or_false}
use Rattle.settling.proofs.is_impossible.Goals as goal

pub returns-in-Next : goal.returns-in-Next
unfolding impossible
returns-in-Next c = rw (c.in-Next.is, and_true (eqb c.args.a 255))

pub returns-in-Jump : goal.returns-in-Jump
unfolding impossible
returns-in-Jump c = rw (c.in-Jump.is, and_off (eqb c.args.a 255))

pub returns-in-Branch : goal.returns-in-Branch
unfolding impossible
returns-in-Branch c = rw (c.in-Branch.is, and_true (eqb c.args.a 255))

pub returns-in-JumpReg : goal.returns-in-JumpReg
unfolding impossible
returns-in-JumpReg c = rw c.in-JumpReg.is

pub returns-in-Call : goal.returns-in-Call
unfolding impossible
returns-in-Call c = rw (c.in-Call.is, and_true (eqb c.args.a 255))

pub returns-in-Return : goal.returns-in-Return
unfolding impossible
returns-in-Return c = rw (c.in-Return.is, and_off (eqb c.args.a 255), or_false (eqb c.args.c.entry 0 || ltb 0 c.args.c.depth)) refl

pub returns-in-Push : goal.returns-in-Push
unfolding impossible
returns-in-Push c = rw (c.in-Push.is, and_true (eqb c.args.a 255))

pub returns-in-Pop : goal.returns-in-Pop
unfolding impossible
returns-in-Pop c = rw (c.in-Pop.is, and_true (eqb c.args.a 255))

pub returns-in-Swap : goal.returns-in-Swap
unfolding impossible
returns-in-Swap c = rw (c.in-Swap.is, and_true (eqb c.args.a 255))

pub returns-in-Halt : goal.returns-in-Halt
unfolding impossible
returns-in-Halt c = rw (c.in-Halt.is, and_off (eqb c.args.a 255))
