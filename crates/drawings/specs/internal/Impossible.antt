-- A reached address at which no sheet whatever keeps the rules 9 to 13, so that a drawing can stop there.
-- Assumes nothing.
use Rattle.std.specs.Prelude.{ℕ, ◌≡◌, Bool, true, false, not, ◌&&◌, ◌||◌, List, eqb, ltb}
use Rattle.isa.specs.declared.Class.{Class}
use Rattle.model.specs.Run.{tests_in}
use Rattle.model.specs.Step.{Program}
use Rattle.rules.specs.Grounds.{is_jump_reg, is_pop_or_swap, is_return}
use Rattle.rules.specs.Successors.{goes_on}
use Rattle.drawings.specs.Drawn.{Admitted}
use Rattle.drawings.specs.declared.Cell.{Cell}
use Rattle.drawings.specs.internal.Visits.{Settled}

-- an address a of class k with the cell c, whose mark no sheet can better
unfoldable pub impossible : Class → ℕ → Cell → Bool
impossible k a c =
    is_jump_reg k
    || ((tests_in k && not c.mark)
    || ((is_pop_or_swap k && eqb c.depth 0)
    || ((is_return k && (eqb c.entry 0 || ltb 0 c.depth)) || (eqb a 255 && goes_on k))))

abbrev pub NoneAdmitted : Program → Type 0
NoneAdmitted p = (s l : List ℕ) → Admitted p s l → ⊥

-- what is known where an impossible address was looked for
pub record Refutes (p : Program) (found : Bool) : Type 0 where
  pub none : found ≡ true → NoneAdmitted p

-- what is known after settling
pub record Settles (p : Program) (ws : List ℕ) (rests : Bool) : Type 0 where
  pub settled : rests ≡ true → Settled p ws
  pub none : rests ≡ false → NoneAdmitted p
