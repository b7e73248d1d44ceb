-- The first refusal is the answer; n and left-over bytes come last.
use lib.ListN.{drop}
use Rattle.groups.specs.Fields.{field_in}
use Rattle.groups.specs.internal.Places.{read_by, place_of, ReadsAs}
use Rattle.groups.proofs.Places.{value_read, refusal_read}
use Rattle.groups.proofs.Readings.{handed_on}
use Rattle.files.specs.File.{count_field}
use Rattle.checking.proofs.ListJudged.{count_stops, bytes_stop, not_least, bytes_follow, list_passes}
use Rattle.checking.proofs.judging.judge_list.Goals as goal
use Rattle.checking.proofs.judging.judge_list.Goals.{After-read_field}

-- the number of routines, judged in its field
abbrev count : (c : After-read_field) → ReadsAs c.args.file.now c.args.at (field_in count_field (drop c.args.at c.args.file.now))
    (read_by c.args.file.now c.read_field.result) (place_of c.read_field.result)
count c = c.read_field.ensures

pub returns-in_err-count : goal.returns-in_err-count
returns-in_err-count c =
    let a = c.args in
    rw (handed_on c.from_residual.result c.from_residual.ensures.1) (count_stops a.file.now a.at a.blank (refusal_read _ _ (count (goal.at.returns-in_err-count c).After-read_field) c.in_err-count.was))

pub returns-in_err-left : goal.returns-in_err-left
returns-in_err-left c =
    let a = c.args in
    rw (handed_on c.from_residual-in_err-left.result c.from_residual-in_err-left.ensures.1) (bytes_stop a.file.now a.at a.blank (value_read _ _ (count (goal.at.returns-in_err-left c).After-read_field) c.in_ok-count.was) c.in_err-left.ensures)

pub returns-then-blank : goal.returns-then-blank
returns-then-blank c = let a = c.args in not_least a.file.now a.at a.blank (value_read _ _ (count (goal.at.returns-then-blank c).After-read_field) c.in_ok-count.was) c.in_ok-left.ensures c.if-blank.true

pub returns-then-left-file : goal.returns-then-left-file
returns-then-left-file c = let a = c.args in bytes_follow a.file.now a.at a.blank (value_read _ _ (count (goal.at.returns-then-left-file c).After-read_field) c.in_ok-count.was) c.in_ok-left.ensures c.if-blank.false c.if-left-file.true

pub returns : goal.returns
returns c = let a = c.args in list_passes a.file.now a.at a.blank (value_read _ _ (count (goal.at.returns c).After-read_field) c.in_ok-count.was) c.in_ok-left.ensures c.if-blank.false c.if-left-file.false
