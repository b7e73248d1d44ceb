-- Bytes of forms stored one behind another, and what the storing of lines rests on.
-- Assumes nothing.
use Rattle.std.specs.Prelude.{ℕ, ◌+◌, ◌≤◌, ◌≡◌, List, [], ◌∷◌, length, set}
use Rattle.isa.specs.declared.Instr.{Instr}
use Rattle.labels.specs.Lines.{lines_of, line_of, size_of, word_count}
use Rattle.labels.specs.internal.Search.{bad_line, Addresses, Index}
use Rattle.words.specs.Program.{forms_in, opcode_of, argument_of}

-- a byte of each form, from a place on
unfoldable pub stored_in : (Instr → ℕ) → List Instr → ℕ → List ℕ → List ℕ
stored_in byte [] at b = b
stored_in byte (i ∷ is) at b = stored_in byte is (at + 1) (set b at (byte i))

-- a text that passes 24 and 26, with the addresses of its lines and the index of its labels
pub record Ready (t addresses starts numbers : List ℕ) : Type 0 where
  pub good : bad_line t ≡ 0
  pub few : word_count (lines_of t) ≤ 256
  pub noted : Addresses t (length (lines_of t)) addresses
  pub index : Index t starts numbers

-- what the storing of a line at a place leaves, and the place after it
pub record LineStored (t l : List ℕ) (at r : ℕ) (ops args ops' args' : List ℕ) : Type 0 where
  pub next : r ≡ at + size_of l
  pub opcodes : ops' ≡ stored_in opcode_of (forms_in (line_of l) (lines_of t) l at) at ops
  pub arguments : args' ≡ stored_in argument_of (forms_in (line_of l) (lines_of t) l at) at args
