-- A law for each answer: lengths, a file that is refused, and a good one that fills all four buffers.
use mathlib.Core.Path.{refl}
use Rattle.groups.proofs.Readings.{handed_on}
use Rattle.rules.specs.Sheet.{listing}
use Rattle.sheets.proofs.Judged.{length_number, length_named, length_kept}
use Rattle.opening.proofs.Outcomes.{BufferSizes, sized, refuse_sizes, refuse_file, opened_whole}
use Rattle.opening.proofs.open_file.Goals as goal
use Rattle.opening.proofs.open_file.Goals.{In_ok-buffer_sizes}

abbrev sizes : (c : In_ok-buffer_sizes) → BufferSizes (listing c.args.opcodes.now c.args.arguments.now c.args.sheet.now c.args.list.now)
sizes c = sized (listing c.args.opcodes.now c.args.arguments.now c.args.sheet.now c.args.list.now) c.in_ok-buffer_sizes.ensures length_kept

pub returns-in_err-buffer_sizes : goal.returns-in_err-buffer_sizes
returns-in_err-buffer_sizes c =
    let B = listing c.args.opcodes.now c.args.arguments.now c.args.sheet.now c.args.list.now in
    let k = c.in_err-buffer_sizes.field-0.0 in
    rw (handed_on c.from_residual.result c.from_residual.ensures.1) (refuse_sizes c.args.file.now B (length_number k refl c.in_err-buffer_sizes.ensures) (length_named k refl))

pub fill_addresses-requires : goal.fill_addresses-requires
fill_addresses-requires c = let s = sizes (goal.at.fill_addresses-requires c).In_ok-buffer_sizes in (s.opcodes, s.arguments, s.sheet)

pub fill_bytes-requires : goal.fill_bytes-requires
fill_bytes-requires c = (sizes (goal.at.fill_bytes-requires c).In_ok-buffer_sizes).list

pub returns-in_err-contents : goal.returns-in_err-contents
returns-in_err-contents c =
    rw (handed_on c.from_residual-in_err-contents.result c.from_residual-in_err-contents.ensures.1)
    (refuse_file c.args.file.now (listing c.args.opcodes.now c.args.arguments.now c.args.sheet.now c.args.list.now) c.in_ok-buffer_sizes.ensures length_kept c.in_err-contents.ensures)

pub returns : goal.returns
returns c =
    let file = c.args.file.now in
    opened_whole file (listing c.args.opcodes.now c.args.arguments.now c.args.sheet.now c.args.list.now) c.in_ok-buffer_sizes.ensures length_kept _ _ _ _ c.in_ok-contents.ensures
    c.fill_addresses.ensures c.fill_bytes.ensures
