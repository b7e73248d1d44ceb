-- Each stop has its word, none longer than "unsettled".
use native.Mathlib.Omega.{arith}
use Rattle.lines.specs.Lines.{stop_word}
use Rattle.lines.proofs.write_stop.Goals as goal

pub returns-in-Halted : goal.returns-in-Halted
unfolding stop_word
returns-in-Halted c = rw c.in-Halted.is (record { left = c.write.ensures; short = omega arith })

pub returns-in-Spent : goal.returns-in-Spent
unfolding stop_word
returns-in-Spent c = rw c.in-Spent.is (record { left = c.write-in-Spent.ensures; short = omega arith })

pub returns-in-Unsettled : goal.returns-in-Unsettled
unfolding stop_word
returns-in-Unsettled c = rw c.in-Unsettled.is (record { left = c.write-in-Unsettled.ensures; short = omega arith })

pub returns-in-Full : goal.returns-in-Full
unfolding stop_word
returns-in-Full c = rw c.in-Full.is (record { left = c.write-in-Full.ensures; short = omega arith })
