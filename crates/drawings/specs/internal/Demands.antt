-- What a reached address demands: of the entry of its routine, of a call's target, and of each successor.
-- Assumes nothing.
use Rattle.std.specs.Prelude.{ℕ, ◌+◌, false, cond, List, [], ◌∷◌, ◌++◌, ltb, get_or}
use Rattle.isa.specs.declared.Class.{Class}
use Rattle.isa.specs.declared.Class.TheVariants.{Next, Jump, Branch, JumpReg, Call, Return, Push, Pop, Swap, Halt}
use Rattle.model.specs.Step.{Program}
use Rattle.rules.specs.Successors.{Successor, successors}
use Rattle.drawings.specs.Reached.{class_in}
use Rattle.drawings.specs.declared.Cell.{Cell}
use Rattle.drawings.specs.internal.Cells.{cell, seen, need_in, cell_in}

-- what is asked of an address: at least this cell
pub record Demand : Type 0 where
  pub at : ℕ
  pub want : Cell

abbrev pub demand : ℕ → Cell → Demand
demand a c = record { at = a; want = c }

-- the cell of an entry: at depth 0, V not marked (7)
abbrev pub entry_cell : (e n : ℕ) → Cell
entry_cell e n = cell e 0 false n

-- a value of a call's target, another for any other class
abbrev pub of_call_or : {A : Type 0} → (ℕ → A) → A → Class → A
of_call_or f x (Next e) = x
of_call_or f x (Jump t) = x
of_call_or f x (Branch t n) = x
of_call_or f x JumpReg = x
of_call_or f x (Call t) = f t
of_call_or f x Return = x
of_call_or f x (Push r) = x
of_call_or f x Pop = x
of_call_or f x (Swap r) = x
of_call_or f x Halt = x

-- the need that an address at depth d asks of its routine (8 and 15), where n is the need of the callee
abbrev pub room_of : Class → (d n : ℕ) → ℕ
room_of k d n = of_call_or (λ t. d + 1 + n) d k

-- a need is a byte: recursion comes to rest at 255, which admission refuses
abbrev pub capped : ℕ → ℕ
capped n = cond (ltb n 256) n 255

abbrev pub target_of : Class → ℕ
target_of k = of_call_or (λ t. t) 0 k

-- 14: a call's target is an entry
abbrev pub called : Class → List Demand
called k = of_call_or (λ t. demand t (entry_cell t 0) ∷ []) [] k

-- 16: a successor is in the same routine, at its depth, and has no mark against the rule
abbrev pub following : ℕ → List Successor → List Demand
following e [] = []
following e (x ∷ xs) = demand x.to (cell e x.depth_there x.mark 0) ∷ following e xs

-- all that an address a of class k with the cell c demands, where n is the need of the callee
abbrev pub demands_of : Class → ℕ → Cell → ℕ → List Demand
demands_of k a c n =
    demand c.entry (entry_cell c.entry (capped (room_of k c.depth n)))
    ∷ (called k ++ following c.entry (successors k a c.depth c.mark))

unfoldable pub demands_at : Program → List ℕ → ℕ → List Demand
demands_at p ws a =
    cond (seen (get_or ws a 0)) (demands_of (class_in p a) a (cell_in (get_or ws a 0)) (need_in (get_or ws (target_of (class_in p a)) 0))) []
