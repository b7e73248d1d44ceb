-- Every form that a text stands for is valid: the encoder takes them all.
-- Assumes nothing.
use Prim.Native.Nat.{ℕ}
use mathlib.Core.Path.{◌≡◌}
use mathlib.Core.Bool.{true, not}
use mathlib.Core.List.{List, [], ◌∷◌}
use borrow.Author.Tests.{not-true}
use Rattle.slices.proofs.Bools.{both}
use Rattle.isa.specs.Encode.{bad_register, bad_function}
use Rattle.isa.specs.Table.{row_of, argument_in}
use Rattle.isa.specs.declared.Instr.{Instr}
use Rattle.spelling.proofs.Rows.{all}
use Rattle.words.specs.Program.{program_of}
use Rattle.words.proofs.Validity.{taken, program_taken}
use Rattle.source.specs.Source.{AllValid}

taken_valid : (is : List Instr) → all taken is ≡ true → AllValid is
taken_valid [] e = tt
taken_valid (i ∷ is) e =
    let u = both (taken i) (all taken is) e in
    let v = both (not (bad_register (row_of i))) (not (bad_function (argument_in (row_of i)))) u.0 in
    ((not-true _ v.0, (not-true _ v.1, tt)), taken_valid is u.1)

pub program_valid : (t : List ℕ) → AllValid (program_of t)
program_valid t = taken_valid (program_of t) (program_taken t)
