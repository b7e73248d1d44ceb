use Rattle.words.specs.Program.{opcode_of, argument_of}
use Rattle.words.proofs.Storing.{stored_one, stored_two, stored_three}
use Rattle.words.proofs.store_row.Goals as goal

pub returns-then-k-lt-FIRST_PAIR : goal.returns-then-k-lt-FIRST_PAIR
returns-then-k-lt-FIRST_PAIR c = let a = c.args in (stored_one a.p a.to a.at opcode_of a.k a.opcodes.now c.if-k-lt-FIRST_PAIR.true (c.first_form.ensures a.at) c.store.ensures.0, stored_one a.p a.to a.at argument_of a.k a.arguments.now c.if-k-lt-FIRST_PAIR.true (c.first_form.ensures a.at) c.store.ensures.1)

pub returns-then-k-lt-FIRST_TRIPLE : goal.returns-then-k-lt-FIRST_TRIPLE
returns-then-k-lt-FIRST_TRIPLE c = let a = c.args in (stored_two a.p a.to a.at opcode_of a.k a.opcodes.now c.if-k-lt-FIRST_PAIR.false c.if-k-lt-FIRST_TRIPLE.true (c.first_form.ensures a.at) (c.second_form.ensures a.p) c.store.ensures.0 c.store-2.ensures.0, stored_two a.p a.to a.at argument_of a.k a.arguments.now c.if-k-lt-FIRST_PAIR.false c.if-k-lt-FIRST_TRIPLE.true (c.first_form.ensures a.at) (c.second_form.ensures a.p) c.store.ensures.1 c.store-2.ensures.1)

pub returns : goal.returns
returns c = let a = c.args in (stored_three a.p a.to a.at opcode_of a.k a.opcodes.now c.if-k-lt-FIRST_TRIPLE.false c.requires.0 (c.first_form.ensures a.at) (c.second_form.ensures a.p) (c.third_form.ensures a.p a.at) c.store.ensures.0 c.store-2.ensures.0 c.store-3.ensures.0, stored_three a.p a.to a.at argument_of a.k a.arguments.now c.if-k-lt-FIRST_TRIPLE.false c.requires.0 (c.first_form.ensures a.at) (c.second_form.ensures a.p) (c.third_form.ensures a.p a.at) c.store.ensures.1 c.store-2.ensures.1 c.store-3.ensures.1)
