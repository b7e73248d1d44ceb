-- The counters from 0 on, the observed run, and the page of what it counted.
use Rattle.model.specs.Run.{call}
use Rattle.busy_runs.specs.Busy.{records}
use Rattle.busy_runs.proofs.Promises.{made}
use Rattle.busy.proofs.run_recorded.Goals as goal

pub returns : goal.returns
returns c =
    let a = c.args in
    rw c.from.ensures
    (made (call a.opcodes.now a.arguments.now a.keys.now a.budget a.start a.ram.now a.stack.now a.roll.now) c.requires.0
    c.observe-reached.ensures.addresses (records a.counters.now a.page.now) _ _ _ _ c.requires.2 c.observe-reached.ensures.ran
    c.observe-reached.ensures.counted c.write_page-lines.ensures)
