-- 01, 'Lists of runs': the tally, a row of entries fed by the steps. The last entry stands first in the list.
-- Assumes nothing.
use Rattle.std.specs.Prelude.{ℕ, List, [], ◌∷◌}
use Rattle.isa.specs.declared.Class.{Class}
use Rattle.isa.specs.declared.Class.TheVariants.{Next, Jump, Branch, JumpReg, Call, Return, Push, Pop, Swap, Halt}
use Rattle.model.specs.State.{next_address, sp_after_push, register}
use Rattle.model.specs.Step.{Machine}
use Rattle.model.specs.declared.State.{State}
use Rattle.rules.specs.Sheet.{Listing, class_at, routine}

-- "push adds an entry: Ra's byte, and the routine that the sheet names for the push. call adds a return entry: the address after the call"
pub data Entry : Type 0 where
  byte : ℕ → ℕ → Entry
  return_to : ℕ → Entry

abbrev pub without_last : List Entry → List Entry
without_last [] = []
without_last (e ∷ row) = row

-- "swap puts Ra's byte in the last entry"
abbrev pub in_last : ℕ → List Entry → List Entry
in_last x [] = []
in_last x (byte b r ∷ row) = byte x r ∷ row
in_last x (return_to a ∷ row) = return_to x ∷ row

-- the row after a step of class k from state s, whose sheet word names routine r
unfoldable pub tally_of : Class → State → ℕ → List Entry → List Entry
tally_of (Next e) s r row = row
tally_of (Jump a) s r row = row
tally_of (Branch a n) s r row = row
tally_of JumpReg s r row = row
tally_of (Call a) s r row = return_to (next_address s.pc) ∷ row
tally_of Return s r row = without_last row
tally_of (Push q) s r row = byte (register s q) r ∷ row
tally_of Pop s r row = without_last row
tally_of (Swap q) s r row = in_last (register s q) row
tally_of Halt s r row = row

abbrev pub tally : Listing → Machine → List Entry → List Entry
tally L m row = tally_of (class_at L m.core.state.pc) m.core.state (routine L m.core.state.pc) row

-- the stack addresses that a push, call or swap stores to, with the byte
pub record Store : Type 0 where
  pub at : ℕ
  pub byte' : ℕ

abbrev pub storing : ℕ → ℕ → List Store
storing a b = record { at = a; byte' = b } ∷ []

unfoldable pub stores_of : Class → State → List Store
stores_of (Next e) s = []
stores_of (Jump a) s = []
stores_of (Branch a n) s = []
stores_of JumpReg s = []
stores_of (Call a) s = storing (sp_after_push s.sp) (next_address s.pc)
stores_of Return s = []
stores_of (Push q) s = storing (sp_after_push s.sp) (register s q)
stores_of Pop s = []
stores_of (Swap q) s = storing s.sp (register s q)
stores_of Halt s = []
