-- By what settling tells, and the number of routines.
use Rattle.judging.proofs.Judgements.{first_words, too_many, drafted}
use Rattle.judging.proofs.draft.Goals as goal

pub settle-requires : goal.settle-requires
settle-requires c = first_words

pub returns-then-n-gt-MAX_ROUTINES : goal.returns-then-n-gt-MAX_ROUTINES
returns-then-n-gt-MAX_ROUTINES c = too_many (c.settle.ensures.settled c.if-not-settle.false) c.number_routines-n.ensures.0 c.if-n-gt-MAX_ROUTINES.true

pub returns : goal.returns
returns c = drafted (c.settle.ensures.settled c.if-not-settle.false) c.number_routines-n.ensures.0 c.if-n-gt-MAX_ROUTINES.false c.write_sheet.ensures c.write_list.ensures
