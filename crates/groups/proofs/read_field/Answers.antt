-- Cut off, a 0 behind a group, more than three groups, out of its field, or read: a law of `Places` each.
use mathlib.Core.Path.{refl}
use lib.ListN.{get_or}
use Rattle.groups.specs.Fields.{field}
use Rattle.groups.proofs.Places.{read_cut, read_padded, read_long, read_other, read_good, padded, not_padded}
use Rattle.groups.proofs.read_field.Goals as goal

pub returns-in_default : goal.returns-in_default
returns-in_default c = let a = c.args in read_cut (field a.low a.high) a.file.now a.at _ refl c.in_default.ensures

pub returns-then-before-file : goal.returns-then-before-file
returns-then-before-file c =
    let a = c.args in
    let last = c.in-Some.ensures in
    let z = padded a.at c.in-Some.last (get_or a.file.now c.in-Some.last 0) c.if-before-file.true in
    read_padded (field a.low a.high) a.file.now a.at c.in-Some.last last.0 last.1 z.0 z.1

pub returns-then-before-gt2 : goal.returns-then-before-gt2
returns-then-before-gt2 c =
    let a = c.args in
    let last = c.in-Some.ensures in
    read_long (field a.low a.high) a.file.now a.at c.in-Some.last last.0 last.1 (not_padded a.at c.in-Some.last _ c.if-before-file.false) c.if-before-gt2.true c.requires

pub returns-then-value-low : goal.returns-then-value-low
returns-then-value-low c =
    let a = c.args in
    let last = c.in-Some.ensures in
    read_other (field a.low a.high) a.file.now a.at c.in-Some.last last.0 last.1 (not_padded a.at c.in-Some.last _ c.if-before-file.false) c.value_at-value.ensures c.if-value-low.true

pub returns : goal.returns
returns c =
    let a = c.args in
    let last = c.in-Some.ensures in
    read_good (field a.low a.high) a.file.now a.at c.in-Some.last last.0 last.1 (not_padded a.at c.in-Some.last _ c.if-before-file.false) c.value_at-value.ensures c.if-value-low.false
