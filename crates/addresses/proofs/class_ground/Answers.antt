-- An arm a class; a plain instruction's rules do not look at the list.
use Rattle.std.proofs.Common.{refl, ◌∙◌}
use Rattle.slices.specs.Checks.{first_broken}
use Rattle.rules.specs.Sheet.{word, described, marked, routine, depth}
use Rattle.sheets.proofs.Judged.{kept}
use Rattle.addresses.proofs.ClassGrounds as tests
use Rattle.addresses.proofs.class_ground.Goals as goal

pub returns-in-Next : goal.returns-in-Next
unfolding first_broken word described marked routine depth
returns-in-Next c = rw (c.next_word_ground.ensures, c.mark_after.ensures, c.from-kept.ensures, c.in-Next.is)

pub returns-in-Jump : goal.returns-in-Jump
unfolding first_broken word described marked routine depth
returns-in-Jump c =
    rw (c.refuse_if.ensures, c.bad_successor-bad_target.ensures, c.from-kept.ensures, c.in-Jump.is)
    (let a = c.args in tests.jump a.sheet.now a.a a.routine a.depth a.marked a.list.now _)

pub returns-in-Branch : goal.returns-in-Branch
unfolding first_broken word described marked routine depth
returns-in-Branch c = rw (c.branch_ground.ensures, c.in-Branch.is)

pub returns-in-JumpReg : goal.returns-in-JumpReg
unfolding first_broken word described marked routine depth
returns-in-JumpReg c = rw (c.refuse_if-in-JumpReg.ensures, c.in-JumpReg.is) refl

pub returns-in-Return : goal.returns-in-Return
unfolding first_broken word described marked routine depth
returns-in-Return c =
    rw (c.refuse_if-in-Return.ensures, c.in-Return.is) (let a = c.args in tests.return a.sheet.now a.a a.routine a.depth a.marked a.list.now)

pub returns-in-Push : goal.returns-in-Push
unfolding first_broken word described marked routine depth
returns-in-Push c = rw (c.next_word_ground-in-Push.ensures, c.from-kept.ensures, c.in-Push.is)

pub returns-in-Pop : goal.returns-in-Pop
unfolding first_broken word described marked routine depth
returns-in-Pop c = rw (c.top_byte_ground.ensures, c.saturating_sub.ensures, c.in-Pop.is) refl

pub returns-in-Swap : goal.returns-in-Swap
unfolding first_broken word described marked routine depth
returns-in-Swap c = rw (c.top_byte_ground-in-Swap.ensures, c.in-Swap.is) refl

pub returns-in-Halt : goal.returns-in-Halt
unfolding first_broken word described marked routine depth
returns-in-Halt c = kept ∙ (rw c.in-Halt.is (let a = c.args in tests.halt a.sheet.now a.a a.routine a.depth a.marked a.list.now))
