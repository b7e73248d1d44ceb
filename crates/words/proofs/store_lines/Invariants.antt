-- A line a turn; the words of the lines left have room.
use Prim.Native.Nat.{◌+◌, ◌≤◌}
use mathlib.Core.Path.{◌≡◌}
use Rattle.words.specs.Program.{opcode_of, argument_of}
use Rattle.words.proofs.Lines.{StoringLines, AtWord}
use Rattle.words.proofs.store_lines.Given as goal

abbrev pub invariant-loop-line : goal.invariant-loop-line
invariant-loop-line l =
    (l.line-iterator.text.now ≡ l.text) × (l.line-iterator.number ≤ l.line-iterator.at + 1) × AtWord l.text l.line-iterator.at l.at
    × StoringLines opcode_of l.text l.initial.opcodes l.line-iterator.at l.at l.opcodes × StoringLines argument_of l.text l.initial.arguments l.line-iterator.at l.at l.arguments
