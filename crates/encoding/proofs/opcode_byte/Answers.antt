-- Each arm joins its letters; none is over 3, so none reaches another's bits.
use borrow.Author.Tests.{ltb-false}
use Rattle.encoding.proofs.Joined.{joined_opcode, joined_pair, joined_six}
use Rattle.encoding.proofs.opcode_byte.Goals as goal

pub returns-in-DDAA : goal.returns-in-DDAA
returns-in-DDAA c = let o = c.in-DDAA.is in rw o (joined_opcode _ _ _ (rw o at c.requires))

pub returns-in-DDXX : goal.returns-in-DDXX
returns-in-DDXX c = let o = c.in-DDXX.is in rw o (joined_pair _ _ (ltb-false 3 _ (rw o at c.requires)))

pub returns-in-OOAA : goal.returns-in-OOAA
returns-in-OOAA c = let o = c.in-OOAA.is in rw o (joined_six _ _ (ltb-false 3 _ (rw o at c.requires)))
