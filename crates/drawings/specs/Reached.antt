-- 02 [2]: "what successors and calls reach from address 0".
-- Assumes nothing.
use Rattle.std.specs.Prelude.{ℕ, ◌≡◌, Bool, List, ◌∷◌}
use Rattle.isa.specs.Facts.{class_of}
use Rattle.isa.specs.declared.Class.{Class}
use Rattle.isa.specs.declared.Class.TheVariants.{Call}
use Rattle.model.specs.Step.{Program, instr_at}
use Rattle.rules.specs.Successors.{Successor, successors}

-- the opcodes and the arguments of a program
abbrev pub banks : (ops args : List ℕ) → Program
banks ops args = record { opcodes = ops; arguments = args }

-- the class of the instruction at an address
abbrev pub class_in : Program → ℕ → Class
class_in p a = class_of (instr_at p a)

-- x is one of a list of successors
pub data Among (x : Successor) : List Successor → Type 0 where
  first : {xs : List Successor} → Among x (x ∷ xs)
  later : {y : Successor} {xs : List Successor} → Among x xs → Among x (y ∷ xs)

-- the addresses of the successors are the same at any depth d, and with V marked (v) or not
pub data Reached (p : Program) : ℕ → Type 0 where
  at_start : Reached p 0
  by_successor :
      (a d : ℕ) (v : Bool) (x : Successor) → Reached p a → Among x (successors (class_in p a) a d v) → Reached p x.to
  by_call : (a t : ℕ) → Reached p a → class_in p a ≡ Call t → Reached p t
