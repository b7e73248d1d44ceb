-- A demand met: what is answered and left.
-- Assumes nothing.
use Prim.Native.Nat.{ℕ, ◌<◌}
use mathlib.Core.Path.{◌≡◌, refl, sym, ◌∙◌}
use mathlib.Core.List.{List, [], ◌∷◌}
use mathlib.Core.Bool.{true, false}
use lib.ListN.{length, get_or, set, length-set}
use Rattle.rules.proofs.Tests.{absurd_bool}
use Rattle.drawings.specs.declared.Cell.{Cell}
use Rattle.drawings.specs.internal.Cells.{merged, has}
use Rattle.drawings.specs.internal.Demands.{demand}
use Rattle.drawings.specs.internal.Visits.{meet, Meets}
use Rattle.drawings.proofs.Weights.{merged_falls, total_falls}

pub met_already : (ws : List ℕ) (a : ℕ) (c : Cell) → length ws ≡ 256 → has (get_or ws a 0) c ≡ true → Meets ws ws (demand a c ∷ []) false
unfolding meet
met_already ws a c l h =
    record { after = rw h; answers = rw h; progress = record { rests = λ _. refl; falls = λ e. absurd_bool (sym e) }; long = l }

pub met_now :
    (ws : List ℕ) (a : ℕ) (c : Cell) → length ws ≡ 256 → a < 256 → c.need < 256 → has (get_or ws a 0) c ≡ false
    → Meets ws (set ws a (merged (get_or ws a 0) c)) (demand a c ∷ []) true
unfolding meet
met_now ws a c l low small h =
    let v = merged (get_or ws a 0) c in
    record {
      after = rw h;
      answers = rw h;
      progress = record {
        rests = λ e. absurd_bool e;
        falls = λ _. total_falls ws a v (rw l low) (merged_falls (get_or ws a 0) c small h);
      };
      long = length-set ws a v ∙ l;
    }
