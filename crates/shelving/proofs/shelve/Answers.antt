-- A law for each answer; 2,051 bytes are room for every file.
use native.Mathlib.Omega.{arith}
use mathlib.Core.Path.{refl}
use Rattle.groups.proofs.Readings.{handed_on}
use Rattle.rules.specs.Sheet.{listing}
use Rattle.files.specs.Promise.{Passes}
use Rattle.files.proofs.Sizes.{good_sizes}
use Rattle.sheets.proofs.Judged.{length_number, length_named, length_kept}
use Rattle.shelving.proofs.Answers.{refuse_sizes, refuse_room, sized, shelved_whole}
use Rattle.shelving.proofs.shelve.Goals as goal
use Rattle.shelving.proofs.shelve.Goals.{In_ok-listing_sizes}

abbrev passes : (c : In_ok-listing_sizes) → Passes (listing c.args.opcodes.now c.args.arguments.now c.args.sheet.now c.args.list.now)
passes c =
    record {
      sizes = sized (listing c.args.opcodes.now c.args.arguments.now c.args.sheet.now c.args.list.now) c.args.out.now c.in_ok-listing_sizes.ensures length_kept;
      opcode_bytes = λ i. (c.type_inv.opcodes i).fits;
      argument_bytes = λ i. (c.type_inv.arguments i).fits;
      sheet_bytes = λ i. (c.type_inv.sheet i).fits;
      list_bytes = λ i. (c.type_inv.list i).fits;
    }

pub returns-in_err-listing_sizes : goal.returns-in_err-listing_sizes
returns-in_err-listing_sizes c =
    let L = listing c.args.opcodes.now c.args.arguments.now c.args.sheet.now c.args.list.now in
    let k = c.in_err-listing_sizes.field-0.0 in
    rw (handed_on c.from_residual.result c.from_residual.ensures.1) (refuse_sizes L c.args.out.now (length_number k refl c.in_err-listing_sizes.ensures) (length_named k refl))

pub returns-then-out-lt-FILE_ROOM : goal.returns-then-out-lt-FILE_ROOM
returns-then-out-lt-FILE_ROOM c = refuse_room (listing c.args.opcodes.now c.args.arguments.now c.args.sheet.now c.args.list.now) c.args.out.now c.in_ok-listing_sizes.ensures length_kept (omega (arith, c.if-out-lt-FILE_ROOM.true))

pub put_file-requires : goal.put_file-requires
put_file-requires c = let s = good_sizes (listing c.args.opcodes.now c.args.arguments.now c.args.sheet.now c.args.list.now) (passes (goal.at.put_file-requires c).In_ok-listing_sizes).sizes in omega (arith, s.list, s.few)

pub returns : goal.returns
returns c = shelved_whole (listing c.args.opcodes.now c.args.arguments.now c.args.sheet.now c.args.list.now) c.args.out.now (passes (goal.at.returns c).In_ok-listing_sizes) (omega (arith, c.if-out-lt-FILE_ROOM.false)) _ _ c.put_file.ensures
