-- One, two or three groups: the value by `Places`.
use Rattle.groups.proofs.Places.{one_group, two_groups, three_groups}
use Rattle.groups.proofs.value_at.Goals as goal

pub returns-then-last-at : goal.returns-then-last-at
returns-then-last-at c = let a = c.args in let e = c.if-last-at.true in one_group a.file.now a.at c.requires.0 c.requires.1 e c.group-top.ensures.0

pub returns-then-last-at-2 : goal.returns-then-last-at-2
returns-then-last-at-2 c = two_groups c.args.file.now c.args.at c.requires.0 c.requires.1 c.if-last-at-2.true c.group-top.ensures.0 c.group-first.ensures.0

pub returns : goal.returns
returns c = three_groups c.args.file.now c.args.at c.requires.0 c.requires.1 c.requires.2 c.if-last-at.false c.if-last-at-2.false c.group-top.ensures.0 c.group-first.ensures.0 c.group.ensures.0
