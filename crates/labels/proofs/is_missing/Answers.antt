use Rattle.labels.specs.Lines.{lines_of}
use Rattle.labels.proofs.Numbered.{none_there, none_tested}
use Rattle.labels.proofs.Searches.{nameless, named, misfit_nameless}
use mathlib.Core.Path.{refl, ◌∙◌}
use Rattle.labels.proofs.is_missing.Goals as goal

pub returns-in_default : goal.returns-in_default
returns-in_default c = let a = c.args in misfit_nameless a.line.now (lines_of a.text.now) c.read_line.ensures (none_there _ c.in_default.not-Some)

pub returns-then-name-eq0 : goal.returns-then-name-eq0
returns-then-name-eq0 c = let a = c.args in nameless a.line.now (lines_of a.text.now) c.read_line.ensures c.in-Some.is c.part-name.ensures c.if-name-eq0.true

pub returns : goal.returns
returns c =
    let a = c.args in
    none_tested _ c.given_at.ensures c.is_none.ensures
    ∙ named a.line.now (lines_of a.text.now) c.read_line.ensures c.in-Some.is c.part-name.ensures c.if-name-eq0.false refl
