-- A group a turn: what is left of the number, written from here, leaves the page of the whole.
use native.Mathlib.Omega.{arith}
use mathlib.Core.Path.{refl}
use Rattle.groups.proofs.Putting.{put_goes, put_ends}
use Rattle.groups.proofs.put_number.Goals as goal

pub loop-rest-preserved : goal.loop-rest-preserved
loop-rest-preserved c = put_goes c.loop-rest.invariant (omega (arith, c.loop-rest-test.true)) refl c.put-next.ensures c.put-next.auto.out

pub returns : goal.returns
returns c = put_ends c.loop-rest.invariant (omega (arith, c.loop-rest-test.false)) refl c.put.ensures
