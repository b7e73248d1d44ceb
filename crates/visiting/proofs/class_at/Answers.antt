-- The bytes at the address, decoded and classified.
use Rattle.model.specs.Step.{instr_at}
use Rattle.visiting.proofs.class_at.Goals as goal

pub returns : goal.returns
unfolding instr_at
returns c = rw (c.classify-facts.ensures, c.decode.ensures.table, c.load-2.ensures, c.load.ensures)
