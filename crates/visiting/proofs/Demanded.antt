-- A visit: nothing is demanded by an address that is not reached; else three functions meet what is demanded, one after the other.
-- Assumes nothing.
use Rattle.std.proofs.Common.{◌≡◌, ℕ, Bool, true, false, ◌||◌, List, [], ◌∷◌, length, get_or, sym, refl, ap, ◌∙◌, subst}
use Rattle.isa.specs.declared.Class.{Class}
use Rattle.model.specs.Step.{Program}
use Rattle.rules.specs.Successors.{successors}
use Rattle.drawings.specs.Reached.{class_in}
use Rattle.drawings.specs.declared.Cell.{Cell}
use Rattle.drawings.specs.internal.Cells.{seen, need_in, cell_in}
use Rattle.drawings.specs.internal.Demands.{Demand, demand, demands_of, entry_cell, room_of, capped, target_of, called, following, demands_at}
use Rattle.drawings.specs.internal.Visits.{Meets}
use Rattle.drawings.proofs.Weights.{zero_unseen, word_seen}
use Rattle.visiting.proofs.Meetings.{met_none, met_both, met_as}

pub not_reached : (p : Program) (ws : List ℕ) (a : ℕ) → length ws ≡ 256 → get_or ws a 0 ≡ 0 → Meets ws ws (demands_at p ws a) false
unfolding demands_at
not_reached p ws a l z = rw (z, zero_unseen) (met_none ws l)

demands_are :
    (p : Program) (ws : List ℕ) (a : ℕ) → seen (get_or ws a 0) ≡ true
    → demands_at p ws a ≡ demands_of (class_in p a) a (cell_in (get_or ws a 0)) (need_in (get_or ws (target_of (class_in p a)) 0))
unfolding demands_at
demands_are p ws a q = rw q

-- where the three functions are given the cell c, the class k and the need n of the address
pub reached :
    (p : Program) (ws : List ℕ) (a : ℕ) (c : Cell) (k : Class) {ws₁ ws₂ ws₃ : List ℕ} {n : ℕ} {x : Cell} {r r₁ r₂ : Bool}
    → (get_or ws a 0 ≡ 0 → ⊥) → c ≡ cell_in (get_or ws a 0) → k ≡ class_in p a
    → n ≡ capped (room_of k c.depth (need_in (get_or ws (target_of k) 0)))
    → Meets ws ws₁ (demand c.entry x ∷ []) r → x ≡ entry_cell c.entry n
    → Meets ws₁ ws₂ (called k) r₁
    → Meets ws₂ ws₃ (following c.entry (successors k a c.depth c.mark)) r₂
    → Meets ws ws₃ (demands_at p ws a) (r || (r₁ || r₂))
reached p ws a c k {ws₁} {ws₂} {ws₃} {n} {x} {r} {r₁} {r₂} z ce ke ne own e cd fd =
    subst (λ (ds : List Demand). Meets ws ws₃ ds (r || (r₁ || r₂)))
    (ap (λ (k : Class). demands_of k a c (need_in (get_or ws (target_of k) 0))) ke
    ∙ ap (λ (c : Cell). demands_of (class_in p a) a c (need_in (get_or ws (target_of (class_in p a)) 0))) ce
    ∙ sym (demands_are p ws a (word_seen (get_or ws a 0) z)))
    (met_both (met_as own refl (e ∙ ap (entry_cell c.entry) ne)) (met_both cd fd))
