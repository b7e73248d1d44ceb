-- The arms with an ALU function of their own look into the ALU's table.
use Rattle.std.proofs.Common.{◌≡◌, ℕ, List, get_or, ap, ◌∙◌}
use Rattle.alu.specs.Alu.{alu_of}
use Rattle.isa.specs.declared.Instr.{Instr}
use Rattle.model.specs.State.{with_registers, with_pc}
use Rattle.model.specs.declared.State.{State}
use Rattle.effects.specs.internal.Effects.{behavior_by, behavior_of}
use Rattle.effects.specs.declared.Effect.{Effect}
use Rattle.execution.proofs.execute_form.Goals as goal

-- one arm: its form, the state after the fetch, what it hands back, and that form's clause
arm : {instr i : Instr} {s t : State} {r e : Effect} (regs : List ℕ) (top : ℕ) (ram keys : List ℕ)
    → instr ≡ i → s ≡ t → r ≡ e → behavior_by regs e ≡ behavior_of i (with_registers s regs) top ram keys
    → behavior_by regs r ≡ behavior_of instr (with_registers t regs) top ram keys
arm regs top ram keys form after result clause = rw (form, ← after, result) clause

pub returns-in-AddImm : goal.returns-in-AddImm
unfolding alu_of
returns-in-AddImm c =
    let a = c.args in
    arm a.regs.now (get_or a.stack.now a.before.sp 0) a.ram.now a.keys.now c.in-AddImm.is
    (c.to_pc-s.ensures ∙ ap (with_pc a.before) c.wrapping_add_u8.ensures.value) c.computed.ensures (rw (c.sum.ensures, c.load-in-AddImm.ensures))

pub returns-in-CmpImm : goal.returns-in-CmpImm
unfolding alu_of
returns-in-CmpImm c =
    let a = c.args in
    arm a.regs.now (get_or a.stack.now a.before.sp 0) a.ram.now a.keys.now c.in-CmpImm.is
    (c.to_pc-s.ensures ∙ ap (with_pc a.before) c.wrapping_add_u8.ensures.value) c.flagged.ensures (rw (c.difference.ensures, c.load-in-CmpImm.ensures))

pub returns-in-MaskImm : goal.returns-in-MaskImm
unfolding alu_of
returns-in-MaskImm c =
    let a = c.args in
    arm a.regs.now (get_or a.stack.now a.before.sp 0) a.ram.now a.keys.now c.in-MaskImm.is
    (c.to_pc-s.ensures ∙ ap (with_pc a.before) c.wrapping_add_u8.ensures.value) c.flagged-in-MaskImm.ensures (rw (c.plain.ensures, c.load-in-MaskImm.ensures))

pub returns-in-MaskIn : goal.returns-in-MaskIn
unfolding alu_of
returns-in-MaskIn c =
    let a = c.args in
    arm a.regs.now (get_or a.stack.now a.before.sp 0) a.ram.now a.keys.now c.in-MaskIn.is
    (c.to_pc-s.ensures ∙ ap (with_pc a.before) c.wrapping_add_u8.ensures.value) c.flagged-in-MaskIn.ensures (rw (c.plain-in-MaskIn.ensures, c.byte_at.ensures))
