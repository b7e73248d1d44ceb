use native.Mathlib.Nat.{add-sub_cancel_left}
use Rattle.reading.specs.Reading.{byte_of}
use Rattle.reading.proofs.scan_byte.Goals as goal

pub returns-then-not-ok : goal.returns-then-not-ok
unfolding byte_of
returns-then-not-ok c = simp c.if-not-ok.true

pub returns-then-is_place : goal.returns-then-is_place
unfolding byte_of
returns-then-is_place c = simp (c.if-not-ok.false, ← c.is_place.ensures, c.if-is_place.true, ← c.word_size-n.ensures.0) (rw (c.take.ensures, c.classify-o.ensures, add-sub_cancel_left))

pub returns : goal.returns
unfolding byte_of
returns c = simp (c.if-not-ok.false, ← c.is_place.ensures, c.if-is_place.false) c.literal.ensures
