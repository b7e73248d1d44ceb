use native.Mathlib.Omega.{arith}
use Prim.Native.Nat.{◌-◌}
use mathlib.Core.Path.{ap, ◌∙◌}
use mathlib.Core.Path.{◌≡◌}
use lib.ListN.{length, drop, length-drop}
use lib.Seq.{take_all}
use Rattle.spelling.specs.Words.{word_length}
use Rattle.spelling.proofs.Runs.{word_counted, word_within}
use Rattle.spelling.proofs.word_size.Goals as goal

pub returns : goal.returns
returns c =
    let a = c.args in
    let rest = drop a.at a.line.now in
    let whole = take_all (length a.line.now - a.at) rest (omega (arith, length-drop a.at a.line.now)) in
    let e : c.front_size.result ≡ word_length a.only rest = c.front_size.ensures ∙ (word_counted a.only _ ∙ ap (word_length a.only) whole) in
    (e, omega (arith, word_within a.only rest, length-drop a.at a.line.now))
