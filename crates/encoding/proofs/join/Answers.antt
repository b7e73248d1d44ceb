-- The tests are those of the definition, in its order.
use Rattle.isa.specs.Encode.{join_of}
use Rattle.encoding.proofs.join.Goals as goal

pub returns-then-is_bad_opcode-is_bad_argument : goal.returns-then-is_bad_opcode-is_bad_argument
unfolding join_of
returns-then-is_bad_opcode-is_bad_argument c = rw (← c.is_bad_argument.ensures, ← c.is_bad_opcode.ensures, c.if-is_bad_opcode-is_bad_argument.true)

pub returns-then-is_bad_function : goal.returns-then-is_bad_function
unfolding join_of
returns-then-is_bad_function c = rw (← c.is_bad_function.ensures, ← c.is_bad_argument.ensures, ← c.is_bad_opcode.ensures, c.if-is_bad_opcode-is_bad_argument.false, c.if-is_bad_function.true)

pub returns : goal.returns
unfolding join_of
returns c = rw (← c.is_bad_function.ensures, ← c.is_bad_argument.ensures, ← c.is_bad_opcode.ensures, c.if-is_bad_opcode-is_bad_argument.false, c.if-is_bad_function.false, c.argument_byte.ensures, c.opcode_byte.ensures)
