-- A run on a roll from its word a on is a run on what is left of the roll from its beginning, and makes the same steps.
-- Assumes nothing.
use mathlib.Core.Path.{◌≡◌, refl, sym, ap, ◌∙◌}
use mathlib.Core.List.{List, ◌∷◌}
use Prim.Native.Nat.{ℕ, zero, suc, ◌+◌, ◌-◌, ◌≤◌, ◌<◌}
use native.Mathlib.Omega.{arith}
use lib.Dec.{leb}
use lib.ListN.{length, set, drop, length-drop}
use lib.Seq.{drop-set-add}
use borrow.Author.Tests.{leb-true, leb-false, le-leb, lt-leb}
use Rattle.slices.specs.Lists.{mapped}
use Rattle.slices.proofs.Bools.{by_test}
use Rattle.isa.specs.Table.{cycles_of}
use Rattle.model.specs.Plan.{Plan}
use Rattle.model.specs.Run.{ended, verdict_of, verdict_at, run_of, trace_of}
use Rattle.model.specs.Step.{Setting, Machine, roll_after, words_after, applied_of, next_instr, plan_at, step_of}
use Rattle.model.specs.declared.Write.{Write}
use Rattle.model.specs.declared.Write.TheVariants.{Nothing, Data, Stack, Roll}
use Rattle.model.proofs.Kept.{step_keeps}
use Rattle.model.proofs.Runs.{by_verdict, none_left, run_stops, run_goes}
use Rattle.model.proofs.Traces.{trace_stops, trace_goes}
use Rattle.seats.specs.AtSeat.{later}

-- word a lies in the roll, and is written
pub record Within (a : ℕ) (m : Machine) : Type 0 where
  pub written : a ≤ m.core.words
  pub roll : a ≤ length m.core.roll

roll_later : (w : Write) (a n : ℕ) (l : List ℕ) → a ≤ n → roll_after w (n - a) (drop a l) ≡ drop a (roll_after w n l)
roll_later Nothing a n l h = refl
roll_later (Data x v) a n l h = refl
roll_later (Stack x v) a n l h = refl
roll_later (Roll x) a n l h =
    let e : a + (n - a) ≡ n = omega arith in
    sym (drop-set-add a l (n - a) x) ∙ ap (λ (k : ℕ). drop a (set l k x)) e

words_later : (w : Write) (a n : ℕ) → a ≤ n → words_after w (n - a) ≡ words_after w n - a
words_later Nothing a n h = refl
words_later (Data x v) a n h = refl
words_later (Stack x v) a n h = refl
words_later (Roll x) a n h = omega arith

words_grow : (w : Write) (n : ℕ) → n ≤ words_after w n
words_grow Nothing n = omega arith
words_grow (Data x v) n = omega arith
words_grow (Stack x v) n = omega arith
words_grow (Roll x) n = omega arith

applied_later : (a : ℕ) (x : Plan) (n : ℕ) (m : Machine) → a ≤ m.core.words → applied_of x n (later a m) ≡ later a (applied_of x n m)
unfolding applied_of
applied_later a x n m h = rw (roll_later x.write a m.core.words m.core.roll h, words_later x.write a m.core.words h)

module _ (x : Setting) (a : ℕ) where
  step_later : (m : Machine) → a ≤ m.core.words → step_of x (later a m) ≡ later a (step_of x m)
  unfolding step_of
  step_later m h = applied_later a (plan_at x (next_instr x m) m) (cycles_of (next_instr x m)) m h

  step_words : (m : Machine) → m.core.words ≤ (step_of x m).core.words
  unfolding step_of applied_of
  step_words m = words_grow (plan_at x (next_instr x m) m).write m.core.words

  step_within : (m : Machine) → Within a m → Within a (step_of x m)
  step_within m h =
      record { written = omega (arith, step_words m, h.written); roll = omega (arith, (step_keeps x m).roll, h.roll) }

  full_later : (l : List ℕ) (n : ℕ) → a ≤ n → a ≤ length l → leb (length (drop a l)) (n - a) ≡ leb (length l) n
  full_later l n h k =
      let e : length (drop a l) ≡ length l - a = length-drop a l in
      by_test (leb (length l) n)
      (λ t. let q : length l ≤ n = leb-true (length l) n t in le-leb (length (drop a l)) (n - a) (omega arith) ∙ sym t)
      (λ t. let q : n < length l = leb-false (length l) n t in lt-leb (length (drop a l)) (n - a) (omega arith) ∙ sym t)

  same_verdict : (n : ℕ) (m : Machine) → Within a m → verdict_at x n (later a m) ≡ verdict_at x n m
  unfolding verdict_of
  same_verdict n m h = rw (full_later m.core.roll m.core.words h.written h.roll)

  pub run_later : (n : ℕ) (m : Machine) → Within a m → run_of x n (later a m) ≡ ended (run_of x n m).stop (later a (run_of x n m).machine)
  run_later zero m h = rw (none_left x m, none_left x (later a m))
  run_later (suc n) m h =
      by_verdict (verdict_at x (suc n) m)
      (λ y e. rw (run_stops x (suc n) m y e, run_stops x (suc n) (later a m) y (same_verdict (suc n) m h ∙ e)))
      (λ e.
      rw (run_goes x n m e, run_goes x n (later a m) (same_verdict (suc n) m h ∙ e), step_later m h.written)
      (run_later n (step_of x m) (step_within m h)))

  pub trace_later : (n : ℕ) (m : Machine) → Within a m → trace_of x n (later a m) ≡ mapped (later a) (trace_of x n m)
  unfolding trace_of
  trace_later zero m h = refl
  trace_later (suc n) m h =
      by_verdict (verdict_at x (suc n) m)
      (λ y e. rw (trace_stops x n m y e, trace_stops x n (later a m) y (same_verdict (suc n) m h ∙ e)))
      (λ e.
      rw (trace_goes x n m e, trace_goes x n (later a m) (same_verdict (suc n) m h ∙ e), step_later m h.written)
      (ap (λ (l : List Machine). later a m ∷ l) (trace_later n (step_of x m) (step_within m h))))
