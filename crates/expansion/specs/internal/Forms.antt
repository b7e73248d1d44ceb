-- The first, second and third form of a row, each by what it depends on.
-- Assumes nothing.
use Rattle.std.specs.Prelude.{ℕ, ◌≡◌, get_or}
use Rattle.isa.specs.declared.Instr.{Instr}
use Rattle.isa.specs.declared.Instr.TheVariants.{Nop}
use Rattle.spelling.specs.Spellings.{forms_of}
use Rattle.spelling.specs.declared.Places.{Places}

abbrev pub First : ℕ → Places → ℕ → Instr → Type 0
First k p to i = (at : ℕ) → i ≡ get_or (forms_of k p to at) 0 Nop

abbrev pub Second : ℕ → ℕ → ℕ → Instr → Type 0
Second k to at i = (p : Places) → i ≡ get_or (forms_of k p to at) 1 Nop

abbrev pub Third : ℕ → ℕ → Instr → Type 0
Third k to i = (p : Places) (at : ℕ) → i ≡ get_or (forms_of k p to at) 2 Nop
