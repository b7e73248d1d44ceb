-- The first refusal is the answer; else the file opens to what was walked over.
use Rattle.groups.proofs.Readings.{handed_on}
use Rattle.checking.proofs.WholeFile.{n_stops, addresses_stop, list_stops, file_passes}
use Rattle.checking.proofs.judging.judge.Goals as goal

pub returns-in_err-n : goal.returns-in_err-n
returns-in_err-n c =
    rw (handed_on c.from_residual.result c.from_residual.ensures.1) (n_stops c.args.file.now c.in_err-n.ensures)

pub returns-in_err-blank : goal.returns-in_err-blank
returns-in_err-blank c =
    rw (handed_on c.from_residual-in_err-blank.result c.from_residual-in_err-blank.ensures.1) (addresses_stop c.args.file.now c.in_ok-n.ensures c.in_err-blank.ensures)

pub returns-in_err-routines : goal.returns-in_err-routines
returns-in_err-routines c =
    rw (handed_on c.from_residual-in_err-routines.result c.from_residual-in_err-routines.ensures.1) (list_stops c.args.file.now c.in_ok-n.ensures c.in_ok-blank.ensures c.in_err-routines.ensures)

pub returns : goal.returns
returns c = file_passes c.args.file.now c.in_ok-n.ensures c.in_ok-blank.ensures c.in_ok-routines.ensures
