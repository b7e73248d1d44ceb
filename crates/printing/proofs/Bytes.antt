-- The fields of a form that a function is given are bytes: what having the form tells, of all forms at once.
-- Assumes nothing.
use Prim.Native.Nat.{ℕ, max, ◌<◌}
use native.Mathlib.Omega.{arith}
use mathlib.Core.List.{[], ◌∷◌}
use lib.ListN.{take, drop}
use denote.Laws.{Is}
use denote.Enum.Declared.{row}
use denote.Enum.Laws.{val}
use Rattle.isa.specs.Decode.{forms}
use Rattle.isa.specs.declared.Instr.{Instr}
use Rattle.isa.specs.contracts.Instr.{the_type}
use Rattle.isa.proofs.Instr.TheLaws.{the_laws}
use Rattle.numbers.specs.Numbers.{fields_of}
use Rattle.numbers.specs.declared.Fields.{Fields}
use Rattle.printing.proofs.AllForms.{All, all_append, each_form}

pub record Bytes (x : Fields) : Type 0 where
  pub d : x.1 < 256
  pub a : x.2 < 256
  pub b : x.4 < 256
  pub n : x.5 < 256

-- what a function's `good` says of a form
abbrev pub Held : Instr → Type 0
Held i = Is (row the_type) i (val the_type the_laws i ∷ [])

abbrev Below : Instr → Type 0
Below i = Held i → max (max (fields_of i).1 (fields_of i).2) (max (fields_of i).4 (fields_of i).5) < 256

-- in two halves, since `omega` takes at most 64 parts
all_below : (d a f b n : ℕ) → All Below (forms d a f b n)
all_below d a f b n = all_append Below (take 20 (forms d a f b n)) (drop 20 (forms d a f b n)) (omega arith) (omega arith)

pub fields_bytes : (i : Instr) → Held i → Bytes (fields_of i)
fields_bytes i g = omega (arith, each_form Below (λ _. omega arith) all_below i g)
