-- Each arm is a form of the table. The last arm is the last form, which is also the answer past it.
use lib.ListN.{take}
use Rattle.slices.proofs.Arms.{past}
use Rattle.slices.proofs.Lookup.{get_d_last}
use Rattle.isa.specs.Decode.{forms}
use Rattle.numbers.specs.Numbers.{instr_of}
use Rattle.numbers.proofs.InstrFromFields.from.Goals as goal

pub returns-in_default : goal.returns-in_default
unfolding instr_of
returns-in_default c = let a = c.args.x in rw (get_d_last (take 39 (forms a.1 a.2 a.3 a.4 a.5)) _ _ (past _ 39 c.in_default.in_default-own.rest))
