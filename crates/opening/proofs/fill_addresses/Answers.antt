-- An address a turn: those before it are filled, and the numbers of the others stand from `next` on.
use native.Mathlib.Omega.{arith}
use Rattle.opening.proofs.AddressesFilled.{fill_starts, fill_goes, fill_ends}
use Rattle.opening.proofs.fill_addresses.Goals as goal

pub loop-a-init : goal.loop-a-init
loop-a-init c = let a = c.args in let p = c.requires in fill_starts a.file.now a.at a.n _ _ _ p.0 p.1 p.2

pub loop-a-preserved : goal.loop-a-preserved
loop-a-preserved c =
    let e = c.to_le_bytes.ensures in
    fill_goes c.take_address-behind.result _ _ c.loop-a.invariant c.loop-a-test.true c.take_address-behind.ensures (rw e) (rw e (omega arith))

pub returns : goal.returns
returns c = fill_ends c.loop-a.invariant c.loop-a-test.false
