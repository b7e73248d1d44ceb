-- THE THIRD DEMAND, proved: an admitted listing's start is safe, runs keep it so, and old stack contents never show.
-- Assumes nothing.
use mathlib.Core.Path.{sym, ◌∙◌}
use mathlib.Core.List.{[]}
use Rattle.rules.specs.Demand.{Demand}
use Rattle.rules.proofs.AdmittedRules.{admitted}
use Rattle.rules.proofs.SafeRuns.{rest, begin_safe, list_safe, trace_is}
use Rattle.rules.proofs.Noninterference.{list_pair}

pub demand : Demand
demand L bytes e w s rs =
    let A = admitted L e in
    let g = begin_safe L A bytes (rest w) s.regs s.z s.c s.s s.state s.stack_long in
    let h = list_safe L A bytes rs [] w g in
    record {
      tallied = h.0;
      none_unsettled = h.1;
      traces = trace_is;
      noninterference = λ w' b.
          list_pair L A bytes rs [] [] w w' b.state b.ram g
          (begin_safe L A bytes (rest w') s.regs s.z s.c s.s (sym b.state ∙ s.state) b.stack_long) tt;
    }
