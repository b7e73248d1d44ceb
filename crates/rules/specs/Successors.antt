-- 01, 'The stack sheet': the successors of an instruction, the depth there, and whether V may be marked there. By classes.
-- Assumes nothing.
use Rattle.std.specs.Prelude.{ℕ, ◌+◌, ◌-◌, List, [], ◌∷◌, Bool, true, false}
use Rattle.isa.specs.declared.Class.{Class}
use Rattle.isa.specs.declared.Class.TheVariants.{Next, Jump, Branch, JumpReg, Call, Return, Push, Pop, Swap, Halt}
use Rattle.isa.specs.declared.OverflowEffect.{OverflowEffect}
use Rattle.isa.specs.declared.OverflowEffect.TheVariants.{Keeps, Settles, Unsettles}
use Rattle.model.specs.State.{next_address}

pub record Successor : Type 0 where
  pub to : ℕ
  pub depth_there : ℕ
  pub mark : Bool

abbrev pub successor : ℕ → ℕ → Bool → Successor
successor t d v = record { to = t; depth_there = d; mark = v }

-- "V may be marked at a successor only if the instruction settles it, or leaves it alone and its own word marks it"
abbrev pub mark_after : OverflowEffect → Bool → Bool
mark_after Keeps v = v
mark_after Settles v = true
mark_after Unsettles v = false

-- "none for hlt and ret; the target for jmp; target and next for conditional jumps; next for all others, call included. The depth at a
-- successor is one more after push, one less after pop, else equal. V .. never at the word after a call." At address a, depth d, and with V
-- marked there or not
abbrev pub successors : Class → (a d : ℕ) → Bool → List Successor
successors (Next e) a d v = successor (next_address a) d (mark_after e v) ∷ []
successors (Jump t) a d v = successor t d v ∷ []
successors (Branch t n) a d v = successor t d v ∷ successor (next_address a) d v ∷ []
successors JumpReg a d v = successor (next_address a) d v ∷ []
successors (Call t) a d v = successor (next_address a) d false ∷ []
successors Return a d v = []
successors (Push r) a d v = successor (next_address a) (d + 1) v ∷ []
successors Pop a d v = successor (next_address a) (d - 1) v ∷ []
successors (Swap r) a d v = successor (next_address a) d v ∷ []
successors Halt a d v = []

-- whether the next word is a successor
abbrev pub goes_on : Class → Bool
goes_on (Next e) = true
goes_on (Jump t) = false
goes_on (Branch t n) = true
goes_on JumpReg = true
goes_on (Call t) = true
goes_on Return = false
goes_on (Push r) = true
goes_on Pop = true
goes_on (Swap r) = true
goes_on Halt = false
