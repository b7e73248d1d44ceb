-- A run's own loop, with what is counted and noted beside it; each need is a law of the loop's invariant.
use mathlib.Core.Path.{refl}
use Rattle.stepping.proofs.Attempts.{attempted}
use Rattle.observation.proofs.ObservedLoop.{observing_starts, observing_goes, observing_stops, observing_halts, observing_ends}
use Rattle.observation.proofs.observe.Goals as goal

pub returns-then-start : goal.returns-then-start
returns-then-start c = observing_halts (observing_starts _ _ _ _ _ refl refl c.requires.1) c.requires.1 c.if-start.true (rw c.ended.ensures)

pub loop-steps-init : goal.loop-steps-init
loop-steps-init c = observing_starts _ _ _ _ _ refl refl c.requires.1

pub returns-then-s : goal.returns-then-s
returns-then-s c =
    let a = attempted _ _ _ _ _ _ _ _ _ _ _ _ _ c.step-result.ensures.0 in
    let g = observing_goes c.loop-steps.invariant c.loop-steps-test.true a c.step-result.ensures.1 c.in-None.is c.step-result.auto.ram c.step-result.auto.stack c.step-result.auto.roll c.note-noted.ensures c.note-noted.auto.log in
    observing_halts g c.requires.1 c.if-s.true (rw (c.ended-then-s.ensures, c.to_registers-reached.ensures))

pub loop-steps-preserved : goal.loop-steps-preserved
loop-steps-preserved c =
    let a = attempted _ _ _ _ _ _ _ _ _ _ _ _ _ c.step-result.ensures.0 in
    observing_goes c.loop-steps.invariant c.loop-steps-test.true a c.step-result.ensures.1 c.in-None.is c.step-result.auto.ram c.step-result.auto.stack c.step-result.auto.roll c.note-noted.ensures c.note-noted.auto.log

pub returns-in-Some : goal.returns-in-Some
returns-in-Some c =
    let a = attempted _ _ _ _ _ _ _ _ _ _ _ _ _ c.step-result.ensures.0 in
    observing_stops c.loop-steps.invariant c.loop-steps-test.true a c.requires.1 _ c.in-Some.is (rw (c.ended-in-Some.ensures, c.to_registers-reached-in-Some.ensures))

pub returns : goal.returns
returns c = observing_ends c.loop-steps.invariant c.requires.1 c.loop-steps-test.false (rw (c.ended-2.ensures, c.last_stop.ensures, c.to_registers-reached-2.ensures))
