-- What putting an instruction into the two banks answers, by the banks' lengths.
-- Assumes nothing.
use mathlib.Core.Path.{◌≡◌}
use mathlib.Core.List.{List}
use Prim.Native.Nat.{ℕ}
use lib.ListN.{length}
use borrow.Author.Tests.{eq-eqb, ne_eqb}
use Rattle.std.specs.Prelude.{Err}
use Rattle.slices.specs.Sizes.{bank_size}
use Rattle.isa.specs.Encode.{encode_of, put_of}
use Rattle.isa.specs.declared.EncodeError.TheVariants.{BadBank}
use Rattle.isa.specs.declared.Instr.{Instr}

module _ (i : Instr) (ops args : List ℕ) where
  pub bad_opcodes : (length ops ≡ bank_size → ⊥) → put_of i ops args ≡ Err BadBank
  unfolding put_of
  bad_opcodes h = rw (ne_eqb (length ops) bank_size h)

  pub bad_arguments : length ops ≡ bank_size → (length args ≡ bank_size → ⊥) → put_of i ops args ≡ Err BadBank
  unfolding put_of
  bad_arguments o h = rw (eq-eqb (length ops) bank_size o, ne_eqb (length args) bank_size h)

  pub good_banks : length ops ≡ bank_size → length args ≡ bank_size → put_of i ops args ≡ encode_of i
  unfolding put_of
  good_banks o a = rw (eq-eqb (length ops) bank_size o, eq-eqb (length args) bank_size a)
