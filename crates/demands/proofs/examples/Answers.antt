-- The tables are computed.
use Rattle.examples.proofs.Answered.{answered, answered_by_both}
use Rattle.examples.proofs.MarkedRows.{marked_rows}
use Rattle.demands.proofs.examples.Goals as goal

pub returns-clause-marked : goal.returns-clause-marked
returns-clause-marked c = marked_rows _

pub returns-clause-answered : goal.returns-clause-answered
returns-clause-answered c = answered

pub returns-clause-compared : goal.returns-clause-compared
returns-clause-compared c = answered_by_both
