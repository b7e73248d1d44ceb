-- A bank of another length is refused before anything is encoded; a refusal of the encoder is passed on; else both bytes are stored.
use mathlib.Core.Path.{◌≡◌, sym, ◌∙◌}
use Prim.Native.Nat.{ℕ}
use Rattle.std.specs.Prelude.{Ok}
use Rattle.isa.proofs.Banks.{bad_opcodes, bad_arguments, good_banks}
use Rattle.isa.proofs.Refusals.{refusal_keeps, put_outcome}
use Rattle.encoding.proofs.put.Goals as goal

pub returns-then-opcodes-ne-BANK_SIZE : goal.returns-then-opcodes-ne-BANK_SIZE
returns-then-opcodes-ne-BANK_SIZE c =
    let a = c.args in
    let e = bad_opcodes a.instr a.opcodes.now a.arguments.now c.if-opcodes-ne-BANK_SIZE.true in
    put_outcome _ _ _ _ (sym e) (rw e) (rw e)

pub returns-then-arguments-ne-BANK_SIZE : goal.returns-then-arguments-ne-BANK_SIZE
returns-then-arguments-ne-BANK_SIZE c =
    let a = c.args in
    let e = bad_arguments a.instr a.opcodes.now a.arguments.now c.if-opcodes-ne-BANK_SIZE.false c.if-arguments-ne-BANK_SIZE.true in
    put_outcome _ _ _ _ (sym e) (rw e) (rw e)

pub returns-in_default : goal.returns-in_default
returns-in_default c =
    let a = c.args in
    let e = good_banks a.instr a.opcodes.now a.arguments.now c.if-opcodes-ne-BANK_SIZE.false c.if-arguments-ne-BANK_SIZE.false ∙ sym c.encode-e.ensures.rule in
    let none : (bytes : ℕ × ℕ) → c.encode-e.result ≡ Ok bytes → ⊥ = c.in_default.not-Ok in
    put_outcome _ _ _ _ (sym e) (rw e (sym (refusal_keeps _ none a.opcodes.now a.at).0)) (rw e (sym (refusal_keeps _ none a.arguments.now a.at).1))

pub returns : goal.returns
returns c =
    let a = c.args in
    let e = good_banks a.instr a.opcodes.now a.arguments.now c.if-opcodes-ne-BANK_SIZE.false c.if-arguments-ne-BANK_SIZE.false ∙ sym c.encode-e.ensures.rule ∙ c.in-Ok.is in
    put_outcome _ _ _ _ (sym e) (rw (c.from-place.ensures, e)) (rw (c.from-place.ensures, e))
