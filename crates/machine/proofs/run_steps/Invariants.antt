-- The loop's invariant is that what is left of the run is the run from the start; each need is one of its laws.
use Prim.Native.Nat.{◌-◌}
use Rattle.model.specs.State.{with_registers}
use Rattle.model.specs.Step.{setting, machine_at}
use Rattle.machine.proofs.RunLoop.{LoopInvariant}
use Rattle.machine.proofs.run_steps.Given as goal

abbrev pub invariant-loop-steps : goal.invariant-loop-steps
invariant-loop-steps l =
    LoopInvariant (setting l.opcodes l.arguments l.keys) l.budget (machine_at l.initial.s l.initial.ram l.initial.stack l.initial.roll l.initial.written l.initial.steps l.initial.cycles)
    (machine_at (with_registers l.s l.regs) l.ram l.stack l.roll l.written l.steps l.cycles)

abbrev pub decreases-loop-steps : goal.decreases-loop-steps
decreases-loop-steps l = l.budget - l.steps
