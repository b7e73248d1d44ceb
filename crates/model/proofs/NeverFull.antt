-- A roll with a free word for each step of the budget is never full: a step writes one word at most, and the budget is asked about first.
-- Assumes nothing.
use Prim.Native.Nat.{ℕ, zero, suc, ◌+◌, ◌≤◌}
use native.Mathlib.Omega.{arith}
use mathlib.Core.Path.{◌≡◌, sym, ap, ◌∙◌}
use mathlib.Core.Bool.{Bool, true, false, cond, not, ◌&&◌}
use lib.Dec.{eqb, leb}
use lib.ListN.{length}
use borrow.Author.Tests.{leb-true}
use Rattle.std.specs.Prelude.{Some}
use Rattle.slices.proofs.Bools.{both}
use Rattle.alu.specs.Alu.{is_settled}
use Rattle.isa.specs.Facts.{writes_roll}
use Rattle.isa.specs.declared.Instr.{Instr}
use Rattle.model.specs.Run.{tests_overflow, first_stop, verdict_of, verdict_at, run_of}
use Rattle.model.specs.Step.{Setting, Core, Machine, next_instr, words_after, applied_of, plan_at, step_of}
use Rattle.model.specs.declared.Stop.TheVariants.{Halted, Spent, Full}
use Rattle.model.specs.declared.Write.{Write}
use Rattle.model.specs.declared.Write.TheVariants.{Nothing, Data, Stack, Roll}
use Rattle.model.proofs.Kept.{step_keeps}
use Rattle.model.proofs.Runs.{by_verdict, none_left, run_stops, run_goes}
use Rattle.model.proofs.Stops.{stop_in}

words_grow : (w : Write) (k : ℕ) → words_after w k ≤ k + 1
words_grow Nothing k = omega arith
words_grow (Data a v) k = omega arith
words_grow (Stack a v) k = omega arith
words_grow (Roll w) k = omega arith

-- only the last test stops by `full`
full_holds : (halted spent unsettled full : Bool) → first_stop halted spent unsettled full ≡ Some Full → full ≡ true
full_holds true spent unsettled full e = absurd (let z : ◌≡◌ {A = ℕ} 0 1 = cc in omega arith)
full_holds false true unsettled full e = absurd (let z : ◌≡◌ {A = ℕ} 0 1 = cc in omega arith)
full_holds false false true full e = absurd (let z : ◌≡◌ {A = ℕ} 0 1 = cc in omega arith)
full_holds false false false true e = cc
full_holds false false false false e = absurd (let z : ◌≡◌ {A = ℕ} 0 1 = cc in omega arith)

no_word_free : (i : Instr) (n : ℕ) (k : Core) → verdict_of i n k ≡ Some Full → length k.roll ≤ k.words
unfolding verdict_of
no_word_free i n k e =
    leb-true (length k.roll) k.words
    (both (writes_roll i) (leb (length k.roll) k.words)
    (full_holds k.state.halted (eqb n 0) (tests_overflow i && not (is_settled k.state.flags.v)) _ e)).1

-- with no budget left
not_full : (halted : Bool) → cond halted Halted Spent ≡ Full → ⊥
not_full true e = let z : ◌≡◌ {A = ℕ} 0 1 = cc in omega arith
not_full false e = let z : ◌≡◌ {A = ℕ} 0 1 = cc in omega arith

module _ (x : Setting) where
  step_writes : (m : Machine) → (step_of x m).core.words ≤ m.core.words + 1
  unfolding step_of applied_of
  step_writes m = words_grow (plan_at x (next_instr x m) m).write m.core.words

  pub never_full : (n : ℕ) (m : Machine) → m.core.words + n ≤ length m.core.roll → (run_of x n m).stop ≡ Full → ⊥
  never_full zero m l e = not_full m.core.state.halted (sym (ap stop_in (none_left x m)) ∙ e)
  never_full (suc n) m l e =
      by_verdict (verdict_at x (suc n) m)
      (λ y q.
      let f : y ≡ Full = sym (ap stop_in (run_stops x (suc n) m y q)) ∙ e in
      let h = no_word_free (next_instr x m) (suc n) m.core (q ∙ ap Some f) in
      omega arith)
      (λ q.
      let k = (step_keeps x m).roll in
      let w = step_writes m in
      never_full n (step_of x m) (omega arith) (sym (ap stop_in (run_goes x n m q)) ∙ e))
