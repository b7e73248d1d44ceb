-- A run's own loop, with what is counted and noted beside it; each need is a law of the loop's invariant.
use Prim.Native.Nat.{◌-◌}
use Rattle.pages.specs.Page.{page}
use Rattle.model.specs.State.{with_registers}
use Rattle.model.specs.Step.{setting, machine_at}
use Rattle.observation.proofs.ObservedLoop.{ObservedLoop}
use Rattle.observation.proofs.observe.Given as goal

abbrev pub invariant-loop-steps : goal.invariant-loop-steps
invariant-loop-steps l =
    ObservedLoop (setting l.opcodes l.arguments l.keys) l.budget (machine_at l.initial.s l.initial.ram l.initial.stack l.initial.roll l.initial.written l.initial.steps l.initial.cycles) l.initial.counters l.initial.log
    (machine_at (with_registers l.s l.regs) l.ram l.stack l.roll l.written l.steps l.cycles) l.counters (page l.log l.noted)

abbrev pub decreases-loop-steps : goal.decreases-loop-steps
decreases-loop-steps l = l.budget - l.steps
