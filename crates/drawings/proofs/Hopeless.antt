-- Where an address is impossible, nothing is admitted: an admitted listing has the same entry and depth there, and no mark that the cell has
-- not, and keeps 9 to 13.
-- Assumes nothing.
use Prim.Native.Nat.{ℕ}
use native.Mathlib.Omega.{arith}
use mathlib.Core.Path.{◌≡◌, sym, ◌∙◌}
use mathlib.Core.List.{List}
use mathlib.Core.Bool.{Bool, true, false, not, ◌&&◌, ◌||◌}
use lib.Dec.{eqb, ltb}
use lib.ListN.{get_or}
use borrow.Author.Tests.{eqb-true, ltb-true, not-true}
use Rattle.slices.specs.Lists.{Bytes}
use Rattle.model.specs.Run.{tests_in}
use Rattle.model.specs.Step.{Program}
use Rattle.slices.proofs.Bools.{both}
use Rattle.rules.specs.Grounds.{is_jump_reg, is_pop_or_swap, is_return}
use Rattle.rules.specs.Sheet.{Listing, routine, class_at}
use Rattle.rules.specs.Successors.{goes_on}
use Rattle.rules.proofs.Tests.{absurd_bool}
use Rattle.drawings.specs.Drawn.{listed}
use Rattle.drawings.specs.Reached.{class_in}
use Rattle.drawings.specs.declared.Cell.{Cell}
use Rattle.drawings.specs.internal.Cells.{seen, cell_in}
use Rattle.drawings.specs.internal.Impossible.{impossible, NoneAdmitted}
use Rattle.drawings.specs.internal.Visits.{Visits}
use Rattle.drawings.proofs.Bounds.{Below, visits_sound}
use Rattle.drawings.proofs.Keeping.{Kept, kept, other_entry}

-- one of two
either : {A : Type 0} (a b : Bool) → (a ≡ true → A) → (b ≡ true → A) → a || b ≡ true → A
either true b f g h = f h
either false b f g h = g h

module _ (A : Listing) (m : Kept A) (bytes : Bytes A.list) where
  not_possible : (a : ℕ) (c : Cell) → Below A m bytes a c → impossible (class_at A a) a c ≡ true → ⊥
  unfolding impossible
  not_possible a c l =
      let k = class_at A a in
      let r = m.base.rules a l.in_sheet in
      let i = routine A a in
      either (is_jump_reg k) _ (λ q. absurd_bool (sym q ∙ r.not_jump_reg))
      (either (tests_in k && not c.mark) _
      (λ q. let t = both (tests_in k) (not c.mark) q in absurd_bool (sym (l.marks (r.v_marked t.0)) ∙ not-true _ t.1))
      (either (is_pop_or_swap k && eqb c.depth 0) _
      (λ q.
      let t = both (is_pop_or_swap k) (eqb c.depth 0) q in
      let z = eqb-true c.depth 0 t.1 in
      let d = l.depth_is in
      let o = r.own t.0 in
      omega arith)
      (either (is_return k && (eqb c.entry 0 || ltb 0 c.depth)) (eqb a 255 && goes_on k)
      (λ q.
      let t = both (is_return k) (eqb c.entry 0 || ltb 0 c.depth) q in
      let o = r.returns t.0 in
      either (eqb c.entry 0) (ltb 0 c.depth)
      (λ z. other_entry A m i (m.named a l.in_sheet) o.0 (sym l.entry_is ∙ eqb-true c.entry 0 z))
      (λ z. let d = l.depth_is in let y = ltb-true 0 c.depth z in let w = o.1 in omega arith)
      t.1)
      (λ q. let t = both (eqb a 255) (goes_on k) q in m.going_on a l.in_sheet t.1 (eqb-true a 255 t.0)))))

pub hopeless :
    (p : Program) (ws : List ℕ) (a : ℕ) → Visits p ws → seen (get_or ws a 0) ≡ true → impossible (class_in p a) a (cell_in (get_or ws a 0)) ≡ true
    → NoneAdmitted p
hopeless p ws a v q i s l h =
    let A = listed p s l in
    let m = kept A h.accepted in
    not_possible A m h.list_bytes a (cell_in (get_or ws a 0)) ((visits_sound A m h.list_bytes ws v).below a q) i
