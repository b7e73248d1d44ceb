-- A line a turn: the lines of the addresses that are left, written from here, leave the page of them all.
use Rattle.busy_runs.specs.internal.Writing.{program}
use Rattle.ranking.proofs.Scanning.{next_told, none_told}
use Rattle.paging.proofs.PageLoop.{next_below, page_starts, page_goes, page_ends, page_full}
use Rattle.paging.proofs.write_page.Goals as goal

pub loop-lines-init : goal.loop-lines-init
loop-lines-init c = page_starts _ _ _

pub returns-in_default : goal.returns-in_default
returns-in_default c = page_ends _ _ c.loop-lines.invariant c.loop-lines-test.true (none_told _ c.next_after.ensures c.in_default.not-Some)

pub overflow_cast-next : goal.overflow_cast-next
overflow_cast-next c =
    let a = c.args in
    let t = next_told _ c.next_after.ensures c.in-Some.is in
    record { fits = next_below (program a.opcodes.now a.arguments.now) a.counters.now _ t.0 t.1 }

pub loop-lines-preserved : goal.loop-lines-preserved
loop-lines-preserved c =
    let t = next_told _ c.next_after.ensures c.in-Some.is in
    page_goes _ _ c.loop-lines.invariant c.loop-lines-test.true t.0 t.1 c.write_line-at.auto.out c.write_line-at.ensures.0 c.write_line-at.ensures.1

pub returns : goal.returns
returns c = page_full _ _ c.loop-lines.invariant c.loop-lines-test.false
