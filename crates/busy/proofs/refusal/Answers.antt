-- Counters and page first, and then a run's own rules.
use mathlib.Core.Path.{sym, ◌∙◌}
use Rattle.busy_runs.proofs.Promises.{good_records, records_refused}
use Rattle.busy.proofs.refusal.Goals as goal

pub returns-then-counters-page : goal.returns-then-counters-page
returns-then-counters-page c = sym (records_refused _ _ c.if-counters-page.true)

pub returns : goal.returns
returns c = c.refusal.ensures ∙ sym (good_records _ _ c.if-counters-page.false)
