use native.Mathlib.Omega.{arith}
use Rattle.labels.proofs.Sizes.{matched_row, size_fits, size_some, size_misfits}
use Rattle.labels.proofs.Numbered.{some_number, no_number}
use Rattle.labels.proofs.line_size.Goals as goal

pub row_size-requires : goal.row_size-requires
row_size-requires c = matched_row _ c.read_line.ensures c.in-Some.is

pub returns-in-Some : goal.returns-in-Some
returns-in-Some c =
    let a = c.args in
    let s = size_fits a.line.now c.read_line.ensures c.in-Some.is c.row_size.ensures in
    (some_number s.0 (size_some a.line.now c.read_line.ensures c.in-Some.is), omega (arith, s.0, s.1))

pub returns-in-None : goal.returns-in-None
returns-in-None c = let z = size_misfits c.args.line.now c.read_line.ensures c.in-None.is in (no_number z, omega (arith, z))
