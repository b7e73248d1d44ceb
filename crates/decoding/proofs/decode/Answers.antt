-- The fields are those of the definition. From 16 on the subtraction takes 1 from the upper four bits and leaves the next two; below 16 the
-- upper four are 0. What holds of every decoded form, and the way back, are laws of the table.
use mathlib.Core.Path.{◌≡◌, refl}
use Prim.Native.Nat.{ℕ, ◌+◌, ◌-◌, ◌/◌, ◌%◌}
use native.Mathlib.Omega.{arith}
use Rattle.isa.specs.Decode.{form_of, decode_of}
use Rattle.isa.specs.declared.Instr.TheVariants.{Alu}
use Rattle.isa.proofs.Promises.{decodes}
use Rattle.decoding.proofs.decode.Goals as goal

-- the table's first row, whose upper four bits are 0
alu_form : (d a f b i : ℕ) → form_of 0 d a f b i ≡ Alu d a f b
unfolding form_of
alu_form d a f b i = refl

pub returns-then-opcode-gt15 : goal.returns-then-opcode-gt15
unfolding decode_of
returns-then-opcode-gt15 c =
    let op = c.args.opcode in
    let arg = c.args.argument in
    let l = c.if-opcode-gt15.true in
    let u : op / 16 ≡ (op - 16) / 4 / 4 + 1 = omega (arith, l) in
    let d : op / 4 % 4 ≡ (op - 16) / 4 % 4 = omega (arith, l) in
    let t : c.form.result ≡ decode_of op arg =
    rw (u, d, ← c.low_pair.ensures) c.form.ensures in
    decodes op arg c.ranges.opcode.fits c.ranges.argument.fits _ t

pub returns-else-opcode-gt15 : goal.returns-else-opcode-gt15
unfolding decode_of
returns-else-opcode-gt15 c =
    let op = c.args.opcode in
    let arg = c.args.argument in
    let u : op / 16 ≡ 0 = omega (arith, c.if-opcode-gt15.false) in
    let t : Alu c.low_pair-else-opcode-gt15.result c.low_pair-else-opcode-gt15-2.result c.high_nibble.result c.low_pair-else-opcode-gt15-3.result ≡ decode_of op arg =
    rw (c.low_pair-else-opcode-gt15.ensures, c.low_pair-else-opcode-gt15-2.ensures, c.high_nibble.ensures, c.low_pair-else-opcode-gt15-3.ensures, u, alu_form (op / 4 % 4) (op % 4) (arg / 16) (arg % 4) arg) in
    decodes op arg c.ranges.opcode.fits c.ranges.argument.fits _ t
