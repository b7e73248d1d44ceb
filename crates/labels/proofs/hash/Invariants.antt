-- A letter a turn.
use Rattle.labels.proofs.Indexes.{Hashing}
use Rattle.labels.proofs.hash.Given as goal

abbrev pub invariant-loop-c : goal.invariant-loop-c
invariant-loop-c l = Hashing l.name l.c-index l.h
