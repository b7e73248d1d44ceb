-- The effect of the instruction at PC, and by its action the write or the stop; the laws of attempts do the rest.
use Prim.Native.Nat.{ℕ, ◌+◌, ◌≤◌}
use mathlib.Core.Path.{◌≡◌, refl, ap, ap₂, ◌∙◌}
use mathlib.Core.Bool.{false, not, ◌&&◌}
use mathlib.Core.List.{List}
use native.Mathlib.Omega.{arith}
use lib.Dec.{leb}
use lib.ListN.{length, get_or}
use borrow.Author.Tests.{lt-leb, le-leb}
use Rattle.std.specs.Prelude.{Some, None}
use Rattle.alu.specs.Alu.{is_settled}
use Rattle.effects.specs.declared.Action.{Action}
use Rattle.effects.specs.declared.Action.TheVariants.{Nothing, TestV, Register, Data, Stack, Swap, Roll, Compute}
use Rattle.effects.specs.internal.Effects.{plan_by, tests_by, sends_by, behavior_by, behavior_of}
use Rattle.isa.specs.Decode.{decode_of}
use Rattle.isa.specs.declared.Instr.{Instr}
use Rattle.model.specs.Run.{first_stop, attempt, attempt_of}
use Rattle.model.specs.State.{with_registers}
use Rattle.model.specs.Step.{setting, machine_at, instr_at, fetched, applied_of}
use Rattle.model.specs.declared.State.{State}
use Rattle.model.specs.declared.Stop.{Stop}
use Rattle.model.specs.declared.Stop.TheVariants.{Unsettled, Full}
use Rattle.stepping.proofs.Attempts.{halted_prevents, step_made, step_prevented}
use Rattle.stepping.proofs.step.Goals as goal
use Rattle.stepping.proofs.step.Goals.{After-from-n}

-- the state that the function is called with, its registers in it
abbrev state : After-from-n → State
state c = with_registers c.args.s c.args.regs.now

behavior_is : (c : After-from-n) →
    let a = c.args in
    behavior_by a.regs.now c.execute-e.result ≡ behavior_of (instr_at (setting a.opcodes.now a.arguments.now a.keys.now).program a.s.pc) (fetched (state c)) (get_or a.stack.now a.s.sp 0) a.ram.now a.keys.now
unfolding instr_at
behavior_is c =
    let a = c.args in
    c.execute-e.ensures
    ∙ ap (λ (i : Instr). behavior_of i (fetched (state c)) (get_or a.stack.now a.s.sp 0) a.ram.now a.keys.now)
    (ap₂ decode_of c.load-opcode.ensures c.load-argument.ensures)

made_at : (c : After-from-n) (b : Action) → c.execute-e.result.action ≡ b → (s' : State) (ram' stack' roll' : List ℕ) (words' : ℕ) →
    let a = c.args in
    let n = c.from-n.result in
    tests_by b && not (is_settled a.s.flags.v) ≡ false → sends_by b && leb (length a.roll.now) a.words ≡ false
    → applied_of (plan_by (with_registers c.execute-e.result.state a.regs.now) b) n (machine_at (state c) a.ram.now a.stack.now a.roll.now a.words 0 0) ≡ machine_at s' ram' stack' roll' words' (0 + 1) (0 + n)
    → (attempt None n (machine_at s' ram' stack' roll' words' 1 n) ≡ attempt_of (setting a.opcodes.now a.arguments.now a.keys.now) (machine_at (state c) a.ram.now a.stack.now a.roll.now a.words 0 0)) × (n ≤ 255)
made_at c b q s' ram' stack' roll' words' u f m =
    let a = c.args in (
      step_made a.opcodes.now a.arguments.now a.keys.now (state c) a.ram.now a.stack.now a.roll.now a.words a.regs.now c.execute-e.result b q c.if-s.false (behavior_is c) c.from-n.result s' ram' stack' roll' words' c.from-n.ensures u f m,
      omega (arith, c.from-n.ensures),
    )

prevented_at : (c : After-from-n) (b : Action) → c.execute-e.result.action ≡ b → (y : Stop) →
    let a = c.args in
    first_stop false false (tests_by b && not (is_settled a.s.flags.v)) (sends_by b && leb (length a.roll.now) a.words) ≡ Some y
    → attempt (Some y) 0 (machine_at (state c) a.ram.now a.stack.now a.roll.now a.words 0 0) ≡ attempt_of (setting a.opcodes.now a.arguments.now a.keys.now) (machine_at (state c) a.ram.now a.stack.now a.roll.now a.words 0 0)
prevented_at c b q y v =
    let a = c.args in
    step_prevented a.opcodes.now a.arguments.now a.keys.now (state c) a.ram.now a.stack.now a.roll.now a.words a.regs.now c.execute-e.result b q c.if-s.false (behavior_is c) y v

pub returns-then-s : goal.returns-then-s
returns-then-s c =
    let a = c.args in
    rw c.prevented.ensures (halted_prevents a.opcodes.now a.arguments.now a.keys.now (with_registers a.s a.regs.now) a.ram.now a.stack.now a.roll.now a.words c.if-s.true, omega arith)

pub returns-in-Nothing : goal.returns-in-Nothing
unfolding applied_of
returns-in-Nothing c = rw c.made.ensures (made_at (goal.at.returns-in-Nothing c).After-from-n Nothing c.in-Nothing.is _ _ _ _ _ refl refl refl)

pub returns-then-is_settled : goal.returns-then-is_settled
unfolding applied_of
returns-then-is_settled c =
    rw c.made-then-is_settled.ensures
    (made_at (goal.at.returns-then-is_settled c).After-from-n TestV c.in-TestV.is _ _ _ _ _ (rw (← c.is_settled.ensures, c.if-is_settled.true)) refl refl)

pub returns-else-is_settled : goal.returns-else-is_settled
returns-else-is_settled c =
    rw c.prevented-else-is_settled.ensures
    (prevented_at (goal.at.returns-else-is_settled c).After-from-n TestV c.in-TestV.is Unsettled (rw (← c.is_settled.ensures, c.if-is_settled.false)), omega arith)

pub returns-in-Register : goal.returns-in-Register
unfolding applied_of
returns-in-Register c =
    rw c.made-in-Register.ensures
    (made_at (goal.at.returns-in-Register c).After-from-n (Register _ _) c.in-Register.is _ _ _ _ _ refl refl (rw c.write.ensures))

pub returns-in-Data : goal.returns-in-Data
unfolding applied_of
returns-in-Data c =
    rw c.made-in-Data.ensures
    (made_at (goal.at.returns-in-Data c).After-from-n (Data _ _) c.in-Data.is _ _ _ _ _ refl refl (rw c.store.ensures))

pub returns-in-Stack : goal.returns-in-Stack
unfolding applied_of
returns-in-Stack c =
    rw c.made-in-Stack.ensures
    (made_at (goal.at.returns-in-Stack c).After-from-n (Stack _ _) c.in-Stack.is _ _ _ _ _ refl refl (rw c.store-in-Stack.ensures))

pub returns-in-Swap : goal.returns-in-Swap
unfolding applied_of
returns-in-Swap c =
    rw c.made-in-Swap.ensures
    (made_at (goal.at.returns-in-Swap c).After-from-n (Swap _ _ _ _) c.in-Swap.is _ _ _ _ _ refl refl
    (rw (c.write-in-Swap.ensures, c.store-in-Swap.ensures)))

pub returns-then-words-roll : goal.returns-then-words-roll
unfolding applied_of
returns-then-words-roll c =
    rw c.made-then-words-roll.ensures
    (made_at (goal.at.returns-then-words-roll c).After-from-n (Roll _) c.in-Roll.is _ _ _ _ _ refl
    (lt-leb _ _ c.if-words-roll.true) (rw (c.send-more.ensures.0, c.send-more.ensures.1)))

pub returns-else-words-roll : goal.returns-else-words-roll
returns-else-words-roll c =
    rw c.prevented-else-words-roll.ensures
    (prevented_at (goal.at.returns-else-words-roll c).After-from-n (Roll _) c.in-Roll.is Full (rw (le-leb _ _ c.if-words-roll.false)), omega arith)

pub returns-in-Compute : goal.returns-in-Compute
unfolding applied_of
returns-in-Compute c =
    rw c.made-in-Compute.ensures
    (made_at (goal.at.returns-in-Compute c).After-from-n (Compute _ _ _ _) c.in-Compute.is _ _ _ _ _ refl refl (rw c.operate-after.ensures))
