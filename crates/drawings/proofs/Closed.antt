-- Demands of which none is open: each is met.
-- Assumes nothing.
use Prim.Native.Nat.{ℕ}
use mathlib.Core.Path.{◌≡◌}
use mathlib.Core.List.{List, [], ◌∷◌, ◌++◌}
use mathlib.Core.Bool.{true, false, not}
use lib.ListN.{get_or}
use borrow.Author.Tests.{not-false}
use Rattle.slices.proofs.Bools.{neither}
use Rattle.drawings.specs.internal.Demands.{Demand}
use Rattle.drawings.specs.internal.Visits.{met, meet, any_open}
use Rattle.drawings.proofs.Weights.{Has, has_is}

abbrev pub HasAll : List ℕ → List Demand → Type 0
HasAll ws [] = Unit {0}
HasAll ws (d ∷ ds) = Has (get_or ws d.at 0) d.want × HasAll ws ds

pub meet_rests : (ws : List ℕ) (d : Demand) → met ws d ≡ true → meet ws d ≡ ws
unfolding meet
meet_rests ws d q = rw q

pub closed_has : (ds : List Demand) (ws : List ℕ) → any_open ws ds ≡ false → HasAll ws ds
closed_has [] ws e = tt
closed_has (d ∷ ds) ws e =
    let h = neither (not (met ws d)) (any_open (meet ws d) ds) e in
    let q : met ws d ≡ true = not-false (met ws d) h.0 in
    (has_is (get_or ws d.at 0) d.want q, closed_has ds ws (rw (meet_rests ws d q) at h.1))

pub has_append : (ws : List ℕ) (xs ys : List Demand) → HasAll ws (xs ++ ys) → HasAll ws xs × HasAll ws ys
has_append ws [] ys h = (tt, h)
has_append ws (x ∷ xs) ys h = let r = has_append ws xs ys h.1 in ((h.0, r.0), r.1)
