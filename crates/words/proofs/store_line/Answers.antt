use Rattle.labels.proofs.Numbered.{none_there}
use Rattle.labels.proofs.Sizes.{matched_row}
use Rattle.words.proofs.Bytes.{line_stored, misfit_stored}
use Rattle.words.proofs.store_line.Goals as goal

pub store_row-requires : goal.store_row-requires
store_row-requires c = (matched_row c.args.line.now c.read_line.ensures c.in-Some.is, c.requires.1)

pub row_size-requires : goal.row_size-requires
row_size-requires c = matched_row c.args.line.now c.read_line.ensures c.in-Some.is

pub returns-in_default : goal.returns-in_default
returns-in_default c = let a = c.args in misfit_stored a.text.now a.line.now a.at a.opcodes.now a.arguments.now c.read_line.ensures (none_there _ c.in_default.not-Some)

pub returns : goal.returns
returns c = let a = c.args in line_stored a.text.now a.line.now a.at a.opcodes.now a.arguments.now c.read_line.ensures c.in-Some.is c.row_size.ensures c.operand_address-to.ensures c.part-name.ensures c.store_row.ensures
