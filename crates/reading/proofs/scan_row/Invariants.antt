use Rattle.reading.proofs.Scans.{Scanning}
use Rattle.reading.specs.Reading.{scanned, empty_places}
use Rattle.reading.proofs.scan_row.Given as goal

abbrev pub invariant-loop-j : goal.invariant-loop-j
invariant-loop-j l = Scanning l.line l.k (scanned l.start empty_places) l.j l.s
