-- An attempt at a step from the effect of the next instruction: which stop prevents it, and else the step that it makes.
-- Assumes nothing.
use mathlib.Core.Path.{◌≡◌, sym, ap, ◌∙◌}
use mathlib.Core.Bool.{Bool, true, false, not, ◌&&◌}
use mathlib.Core.List.{List}
use Prim.Native.Nat.{ℕ, suc, ◌+◌}
use native.Mathlib.Nat.{zero-add, add-zero}
use lib.Dec.{leb}
use lib.ListN.{length, get_or}
use Rattle.std.specs.Prelude.{Option, Some, None}
use Rattle.alu.specs.Alu.{is_settled}
use Rattle.isa.specs.Facts.{writes_roll}
use Rattle.isa.specs.Table.{cycles_of}
use Rattle.model.specs.Plan.{plan_of}
use Rattle.model.specs.Run.{tests_overflow, first_stop, verdict_of, verdict_at, attempt, attempt_of, steps_by}
use Rattle.model.specs.State.{with_registers}
use Rattle.model.specs.Step.{Setting, setting, Machine, machine_at, instr_at, fetched, applied_of, step_of}
use Rattle.model.specs.declared.State.{State}
use Rattle.model.specs.declared.Stop.{Stop}
use Rattle.model.specs.declared.Stop.TheVariants.{Halted}
use Rattle.model.proofs.Attempt.{attempt_verdict, attempt_made, attempt_prevented}
use Rattle.model.proofs.Counts.{recounted, verdict_recounted, step_recounted}
use Rattle.model.proofs.Runs.{some_left}
use Rattle.effects.specs.internal.Effects.{plan_by, tests_by, sends_by, Behavior, behavior_by, behavior_of}
use Rattle.effects.specs.declared.Action.{Action}
use Rattle.effects.specs.declared.Effect.{Effect}

-- ---- from an effect to the attempt

module _ (ops args keys : List ℕ) (s : State) (ram stack roll : List ℕ) (words : ℕ) where
  abbrev x : Setting
  x = setting ops args keys

  abbrev m : Machine
  m = machine_at s ram stack roll words 0 0

  -- a machine that is halted
  pub halted_prevents : s.halted ≡ true → attempt (Some Halted) 0 m ≡ attempt_of x m
  unfolding attempt_of verdict_of
  halted_prevents h = rw h

  -- one that is not, with the effect e of its next instruction, the registers beside e's state, and the action b in it
  module _ (regs : List ℕ) (e : Effect) (b : Action) (is : e.action ≡ b) (awake : s.halted ≡ false)
      (j : behavior_by regs e ≡ behavior_of (instr_at x.program s.pc) (fetched s) (get_or stack s.sp 0) ram keys) where
    abbrev unsettled : Bool
    unsettled = tests_by b && not (is_settled s.flags.v)

    abbrev full : Bool
    full = sends_by b && leb (length roll) words

    verdict_by : verdict_at x 1 m ≡ first_stop false false unsettled full
    unfolding verdict_of
    verdict_by =
        let t : tests_by b ≡ tests_overflow (instr_at x.program s.pc) = ap tests_by (sym is) ∙ ap (λ (t : Behavior). t.tests) j in
        let w : sends_by b ≡ writes_roll (instr_at x.program s.pc) = ap sends_by (sym is) ∙ ap (λ (t : Behavior). t.sends) j in
        rw (awake, t, w)

    step_by : step_of x m ≡ applied_of (plan_by (with_registers e.state regs) b) e.cycles m
    unfolding step_of
    step_by =
        let p : plan_by (with_registers e.state regs) b ≡ plan_of (fetched s) (get_or stack s.sp 0) ram keys (instr_at x.program s.pc) =
        ap (plan_by (with_registers e.state regs)) (sym is) ∙ ap (λ (t : Behavior). t.plan') j in
        let n : e.cycles ≡ cycles_of (instr_at x.program s.pc) = ap (λ (t : Behavior). t.cycles) j in
        rw (p, n)

    pub step_made : (n : ℕ) (s' : State) (ram' stack' roll' : List ℕ) (words' : ℕ) → n ≡ e.cycles → unsettled ≡ false → full ≡ false
        → applied_of (plan_by (with_registers e.state regs) b) n m ≡ machine_at s' ram' stack' roll' words' (0 + 1) (0 + n)
        → attempt None n (machine_at s' ram' stack' roll' words' 1 n) ≡ attempt_of x m
    unfolding attempt_of
    step_made n s' ram' stack' roll' words' q u f made =
        let v : verdict_at x 1 m ≡ None = verdict_by ∙ rw (u, f) in
        let c : n ≡ cycles_of (instr_at x.program s.pc) = q ∙ ap (λ (t : Behavior). t.cycles) j in
        let k : machine_at s' ram' stack' roll' words' 1 n ≡ step_of x m =
        sym (rw (zero-add n) at made) ∙ rw q (sym step_by) in
        rw (v, ← k, ← c)

    pub step_prevented : (y : Stop) → first_stop false false unsettled full ≡ Some y → attempt (Some y) 0 m ≡ attempt_of x m
    unfolding attempt_of
    step_prevented y v = rw (verdict_by ∙ v)

-- ---- from an attempt to the step of a machine with other counts

-- the attempt from m to m', both by the steps and cycles counted: its verdict while some budget is left; the step, if it is made; nothing,
-- if not
pub record Attempted (x : Setting) (m m' : ℕ → ℕ → Machine) (v : Option Stop) (n : ℕ) : Type 0 where
  pub verdict : (left k c : ℕ) → verdict_at x (suc left) (m k c) ≡ v
  pub goes : v ≡ None → (k c : ℕ) → step_of x (m k c) ≡ m' (k + 1) (c + n)
  pub stays : (y : Stop) → v ≡ Some y → (k c : ℕ) → m' k c ≡ m k c

module _ (x : Setting) (s s' : State) (ram stack roll ram' stack' roll' : List ℕ) (words words' : ℕ) (v : Option Stop) (n : ℕ) where
  abbrev before : ℕ → ℕ → Machine
  before k c = machine_at s ram stack roll words k c

  abbrev after : ℕ → ℕ → Machine
  after k c = machine_at s' ram' stack' roll' words' k c

  counted : (k c : ℕ) → before k c ≡ recounted k c (before 0 0)
  counted k c = rw (add-zero k, add-zero c)

  -- what was counted is put back
  abbrev counting : ℕ → ℕ → Machine → Machine
  counting k c m = machine_at m.core.state m.core.ram m.stack m.core.roll m.core.words k c

  module _ (a : attempt v n (after (steps_by v) n) ≡ attempt_of x (before 0 0)) where
    verdict_is : v ≡ verdict_at x 1 (before 0 0)
    verdict_is = attempt_verdict x (before 0 0) (after (steps_by v) n) v n a

    made : v ≡ None → after 1 n ≡ step_of x (before 0 0)
    made q = let e = (attempt_made x (before 0 0) (after (steps_by v) n) v n a q).0 in rw q at e

    prevented : (y : Stop) → v ≡ Some y → after 0 n ≡ before 0 0
    prevented y q = let e = (attempt_prevented x (before 0 0) (after (steps_by v) n) v n a y q).0 in rw q at e

    pub attempted : Attempted x before after v n
    attempted =
        record {
          verdict = λ left k c.
              ap (verdict_at x (suc left)) (counted k c) ∙ verdict_recounted x k c (suc left) (before 0 0) ∙ some_left x left 0 (before 0 0) ∙ sym verdict_is;
          goes = λ q k c. ap (step_of x) (counted k c) ∙ step_recounted x k c (before 0 0) ∙ ap (recounted k c) (sym (made q));
          stays = λ y q k c. ap (counting k c) (prevented y q);
        }
