-- 1 before the text is looked at; a text without a fault is stored in banks of zeros.
use Rattle.assembling.proofs.Faults.{bad_opcodes, bad_arguments, refused_text, filled}
use Rattle.assembling.proofs.assemble.Goals as goal

pub returns-then-opcodes-ne-BANK_SIZE : goal.returns-then-opcodes-ne-BANK_SIZE
returns-then-opcodes-ne-BANK_SIZE c = let a = c.args in bad_opcodes a.text.now a.opcodes.now a.arguments.now c.if-opcodes-ne-BANK_SIZE.true

pub returns-then-arguments-ne-BANK_SIZE : goal.returns-then-arguments-ne-BANK_SIZE
returns-then-arguments-ne-BANK_SIZE c = let a = c.args in bad_arguments a.text.now a.opcodes.now a.arguments.now c.if-opcodes-ne-BANK_SIZE.false c.if-arguments-ne-BANK_SIZE.true

pub returns-in-Err : goal.returns-in-Err
returns-in-Err c =
    let a = c.args in
    let l = rw (← c.from.ensures) at c.in-Err.ensures in
    refused_text a.text.now a.opcodes.now a.arguments.now c.if-opcodes-ne-BANK_SIZE.false c.if-arguments-ne-BANK_SIZE.false l

pub returns : goal.returns
returns c = let a = c.args in filled a.text.now a.opcodes.now a.arguments.now c.if-opcodes-ne-BANK_SIZE.false c.if-arguments-ne-BANK_SIZE.false c.in-Ok.ensures c.clear.ensures c.clear-2.ensures c.store_lines.ensures.0 c.store_lines.ensures.1
