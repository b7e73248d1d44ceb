-- A line a turn: the lines of the addresses that are left, written from here, leave the page of them all.
use Rattle.pages.specs.Page.{page}
use Rattle.busy_runs.specs.internal.Writing.{program}
use Rattle.std.specs.Option.{unwrap_or}
use Rattle.ranking.specs.internal.Selection.{none}
use Rattle.paging.proofs.PageLoop.{PageLoop}
use Rattle.paging.proofs.write_page.Given as goal

abbrev pub invariant-loop-lines : goal.invariant-loop-lines
invariant-loop-lines l = PageLoop (program l.opcodes l.arguments) l.counters l.initial.out l.lines (unwrap_or l.last none) (page l.out l.at)
