-- Admission judges the draft.
use native.Mathlib.Omega.{arith}
use mathlib.Core.Path.{refl}
use borrow.Author.Tests.{eq-eqb, ne_eqb}
use Rattle.judging.proofs.Judgements.{judged}
use Rattle.judging.proofs.admitted.Goals as goal

pub overflow_mul-n : goal.overflow_mul-n
overflow_mul-n c = let f = c.requires.some c.in_ok-n.n c.in_ok-n.was in omega (arith, f.few)

pub returns-then-answer-eq0 : goal.returns-then-answer-eq0
returns-then-answer-eq0 c =
    let a = c.args in
    let f = c.requires.some c.in_ok-n.n c.in_ok-n.was in
    judged _ a.sheet.now a.list.now c.in_ok-n.n c.cesca_admit-answer.result f c.part.ensures c.cesca_admit-answer.ensures.answers c.in_ok-n.was (rw (eq-eqb c.cesca_admit-answer.result 0 c.if-answer-eq0.true) refl)

pub returns-else-answer-eq0 : goal.returns-else-answer-eq0
returns-else-answer-eq0 c =
    let a = c.args in
    let f = c.requires.some c.in_ok-n.n c.in_ok-n.was in
    judged _ a.sheet.now a.list.now c.in_ok-n.n c.cesca_admit-answer.result f c.part.ensures c.cesca_admit-answer.ensures.answers c.in_ok-n.was (rw (ne_eqb c.cesca_admit-answer.result 0 c.if-answer-eq0.false) refl)
