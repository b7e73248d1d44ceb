-- An arm a class, as the successors are defined.
use Rattle.std.proofs.Common.{ℕ, ap, ◌∙◌}
use Rattle.drawings.specs.internal.Cells.{cell}
use Rattle.visiting.proofs.Meetings.{met_as, met_wrapped}
use Rattle.visiting.proofs.meet_successors.Goals as goal

pub returns-in-Push : goal.returns-in-Push
returns-in-Push c = rw c.in-Push.is (met_wrapped (met_as c.meet-in-Push.ensures c.wrapping_add_u8-next.ensures.value (c.follow-in-Push.ensures ∙ ap (λ (d : ℕ). cell c.args.c.entry d c.args.c.mark 0) c.wrapping_add_u8.ensures.value)))
