-- Three numbers one behind another are a row.
use Rattle.pages.specs.Page.{page}
use Rattle.rules.specs.Sheet.{word}
use Rattle.files.specs.File.{address_numbers}
use Rattle.shelving.proofs.RowsPut.{three_put}
use Rattle.shelving.proofs.Parts.put_address.Goals as goal

pub returns : goal.returns
unfolding address_numbers word
returns c = let a = c.args in rw (← c.byte_at-opcode.ensures, ← c.byte_at-argument.ensures, ← c.word_at-word.ensures, ← c.from.ensures, ← c.from-2.ensures, ← c.from-3.ensures) (three_put _ _ _ (page a.out.now a.at) c.put_number-after_opcode.ensures c.put_number-after_argument.ensures c.put_number.ensures)
