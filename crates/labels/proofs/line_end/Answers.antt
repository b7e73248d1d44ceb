-- The bytes up to the line feed, counted from a place on.
use native.Mathlib.Omega.{arith}
use mathlib.Core.Path.{◌≡◌, ap, ◌∙◌}
use Prim.Native.Nat.{◌-◌}
use lib.ListN.{length, drop, length-drop}
use lib.Seq.{take_all}
use Rattle.labels.specs.internal.Search.{cut_of}
use Rattle.labels.proofs.Cuts.{cut_counted, cut_within}
use Rattle.labels.proofs.line_end.Goals as goal

pub returns : goal.returns
returns c =
    let a = c.args in
    let rest = drop a.at a.text.now in
    let whole = take_all (length a.text.now - a.at) rest (omega (arith, length-drop a.at a.text.now)) in
    let e : c.front_line_size.result ≡ cut_of rest = c.front_line_size.ensures ∙ (cut_counted _ ∙ ap cut_of whole) in
    (rw e, omega (arith, cut_within rest, length-drop a.at a.text.now))
