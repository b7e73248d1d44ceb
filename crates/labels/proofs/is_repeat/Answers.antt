-- The first line that gives the label is another.
use mathlib.Core.Path.{◌≡◌, sym, ap, ◌∙◌}
use mathlib.Core.List.{List}
use Prim.Native.Nat.{ℕ}
use lib.ListN.{take}
use Rattle.labels.specs.Lines.{lines_of, label_of}
use Rattle.labels.specs.Labels.{given_at}
use Rattle.labels.proofs.Numbered.{number_told, none_told}
use Rattle.labels.proofs.Searches.{label_some, label_given, repeats_is}
use Rattle.labels.proofs.is_repeat.Goals as goal
use Rattle.labels.proofs.is_repeat.Goals.{After-part}

part_label : (c : After-part) → c.part.result.now ≡ label_of c.args.line.now
part_label c = c.part.ensures ∙ ap (λ (n : ℕ). take n c.args.line.now) (number_told c.label_size.ensures c.in-Some.is).0

pub given_at-requires : goal.given_at-requires
given_at-requires c = (label_some c.args.line.now (number_told c.label_size.ensures c.in-Some.is).1 (part_label c), c.requires.0)

pub returns-in-Some-given_at : goal.returns-in-Some-given_at
returns-in-Some-given_at c =
    let a = c.args in
    let s = number_told c.given_at.ensures c.in-Some-given_at.is in
    repeats_is a.text.now a.line.now a.k c.in-Some-given_at.first c.requires.1 (number_told c.label_size.ensures c.in-Some.is).1
    (s.0 ∙ ap (λ (n : List ℕ). given_at n (lines_of a.text.now) 1) (part_label (goal.at.returns-in-Some-given_at c).After-part))

pub returns-in-None : goal.returns-in-None
returns-in-None c =
    let a = c.args in
    let z = none_told c.given_at.ensures c.in-None.is in
    let label = part_label (goal.at.returns-in-None c).After-part in
    absurd (label_given a.text.now a.line.now a.k c.requires.1 (number_told c.label_size.ensures c.in-Some.is).1
    (sym (z ∙ ap (λ (n : List ℕ). given_at n (lines_of a.text.now) 1) label)))
