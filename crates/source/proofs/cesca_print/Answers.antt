use borrow.Author.Rules.{rules}
use mathlib.Core.Path.{subst}
use Rattle.isa.specs.declared.Instr.{Instr}
use Rattle.printing.specs.Print.{Prints}
use Rattle.source.proofs.Printed.{printed_back}
use Rattle.source.proofs.cesca_print.Goals as goal

pub returns : goal.returns
returns c =
    let p = subst (λ (i : Instr). Prints i c.print.result) c.from.ensures c.print.ensures in
    record { prints = p; reads_back = printed_back c.args.fields (search rules) p }
