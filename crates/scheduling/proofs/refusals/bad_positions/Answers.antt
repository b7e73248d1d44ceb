-- The seats asked so far.
use native.Mathlib.Omega.{arith}
use Rattle.scheduling.proofs.Numbers.{any_more}
use Rattle.scheduling.proofs.refusals.bad_positions.Goals as goal

pub loop-i-preserved : goal.loop-i-preserved
loop-i-preserved c = any_more c.args.states c.args.positions c.args.keys c.args.rolls _ _ _ (omega (arith, c.well_formed.1.1.1.0, c.requires)) c.loop-i.invariant
