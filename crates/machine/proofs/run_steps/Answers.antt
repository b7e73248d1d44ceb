-- The loop's invariant is that what is left of the run is the run from the start; each need is one of its laws.
use mathlib.Core.Path.{◌≡◌, sym, ap}
use mathlib.Core.List.{List}
use Prim.Native.Nat.{ℕ}
use Rattle.std.specs.Prelude.{Result}
use Rattle.model.specs.Run.{Outcome, outcome, reported}
use Rattle.model.specs.declared.Ran.{Ran}
use Rattle.model.specs.declared.Refusal.{Refusal}
use Rattle.model.specs.declared.State.{State}
use Rattle.model.proofs.Runs.{halted_stays}
use Rattle.stepping.proofs.Attempts.{attempted}
use Rattle.machine.proofs.RunLoop.{loop_goes, loop_stops, loop_halts, loop_ends}
use Rattle.machine.proofs.run_steps.Goals as goal

-- the state that is reported
reached_by : {a : Result Ran Refusal} {s t : State} {ram stack roll : List ℕ} {o : Outcome} → s ≡ t → outcome a t ram stack roll ≡ o → outcome a s ram stack roll ≡ o
reached_by e q = rw e q

pub returns-then-start : goal.returns-then-start
returns-then-start c = rw c.ended.ensures (ap reported (sym (halted_stays _ _ _ c.if-start.true)))

pub returns-then-s : goal.returns-then-s
returns-then-s c =
    let a = attempted _ _ _ _ _ _ _ _ _ _ _ _ _ c.step-result.ensures.0 in
    let g = loop_goes c.loop-steps.invariant c.loop-steps-test.true a c.step-result.ensures.1 c.in-None.is c.step-result.auto.ram c.step-result.auto.stack c.step-result.auto.roll in
    rw (c.ended-then-s.ensures, c.to_registers-reached.ensures) (ap reported (loop_halts g c.if-s.true))

pub loop-steps-preserved : goal.loop-steps-preserved
loop-steps-preserved c =
    let a = attempted _ _ _ _ _ _ _ _ _ _ _ _ _ c.step-result.ensures.0 in
    loop_goes c.loop-steps.invariant c.loop-steps-test.true a c.step-result.ensures.1 c.in-None.is c.step-result.auto.ram c.step-result.auto.stack c.step-result.auto.roll

pub returns-in-Some : goal.returns-in-Some
returns-in-Some c =
    let a = attempted _ _ _ _ _ _ _ _ _ _ _ _ _ c.step-result.ensures.0 in
    rw (c.ended-in-Some.ensures, c.to_registers-reached-in-Some.ensures) (ap reported (loop_stops c.loop-steps.invariant c.loop-steps-test.true a _ c.in-Some.is))

pub returns : goal.returns
returns c =
    rw (c.ended-2.ensures, c.last_stop.ensures)
    (reached_by c.to_registers-reached-2.ensures (ap reported (loop_ends c.loop-steps.invariant c.loop-steps-test.false)))
