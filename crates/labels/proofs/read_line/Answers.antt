use borrow.Author.Rules.{rules}
use borrow.Author.Tests.{eq-eqb, ne_eqb}
use mathlib.Core.Path.{refl, sym, ◌∙◌}
use Rattle.labels.specs.Lines.{line_of}
use Rattle.labels.proofs.Names.{label_fits}
use Rattle.labels.proofs.Numbered.{number_told, none_told}
use Rattle.labels.proofs.read_line.Goals as goal

pub overflow_add-n : goal.overflow_add-n
overflow_add-n c = let t = number_told c.in-Some.ensures refl in let h = label_fits c.args.line.now t.1 in let g = t.0 in search rules

pub find_row-requires : goal.find_row-requires
find_row-requires c = let t = number_told c.in-Some.ensures refl in let h = label_fits c.args.line.now t.1 in let g = t.0 in search rules

pub returns-in-Some : goal.returns-in-Some
unfolding line_of
returns-in-Some c = let t = number_told c.in-Some.ensures refl in simp (← t.0, ne_eqb _ _ (λ z. t.1 (sym t.0 ∙ z))) c.find_row.ensures

pub returns-in-None : goal.returns-in-None
unfolding line_of
returns-in-None c = simp (eq-eqb _ _ (sym (none_told c.in-None.ensures refl))) c.find_row-in-None.ensures
