-- A byte a turn: those before it are filled, and the others stand from `next` on.
use Rattle.opening.proofs.ListFilled.{list_starts, list_goes, list_ends}
use Rattle.opening.proofs.fill_bytes.Goals as goal

pub loop-i-init : goal.loop-i-init
loop-i-init c = let a = c.args in list_starts a.file.now a.at a.m _ c.requires

pub loop-i-preserved : goal.loop-i-preserved
loop-i-preserved c = list_goes c.take_byte-byte.result c.loop-i.invariant c.loop-i-test.true c.take_byte-byte.ensures

pub returns : goal.returns
returns c = list_ends c.loop-i.invariant c.loop-i-test.false
