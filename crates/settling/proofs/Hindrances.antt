-- Impossible addresses: the tests by class, and what one of them tells.
-- Assumes nothing.
use Prim.Native.Nat.{ℕ}
use mathlib.Core.Path.{◌≡◌, refl, sym, ap, ◌∙◌}
use mathlib.Core.List.{List}
use mathlib.Core.Bool.{Bool, true, false, ◌&&◌, ◌||◌}
use lib.ListN.{get_or}
use Rattle.isa.specs.declared.Class.{Class}
use Rattle.model.specs.Step.{Program}
use Rattle.rules.proofs.Tests.{absurd_bool}
use Rattle.drawings.specs.Reached.{class_in}
use Rattle.drawings.specs.declared.Cell.{Cell}
use Rattle.drawings.specs.internal.Cells.{cell_in}
use Rattle.drawings.specs.internal.Impossible.{impossible, Refutes}
use Rattle.drawings.specs.internal.Visits.{Visits}
use Rattle.drawings.proofs.Hopeless.{hopeless}
use Rattle.drawings.proofs.Weights.{word_seen}

pub and_true : (x : Bool) → x && true ≡ x
and_true true = refl
and_true false = refl

pub and_off : (x : Bool) → x && false ≡ false
and_off true = refl
and_off false = refl

pub or_false : (x : Bool) → x || false ≡ x
or_false true = refl
or_false false = refl

pub refutes_nothing : {p : Program} → Refutes p false
refutes_nothing = record { none = λ e. absurd_bool (sym e) }

pub hindered :
    (p : Program) (ws : List ℕ) (a : ℕ) (k : Class) (c : Cell) (r : Bool) → Visits p ws → (get_or ws a 0 ≡ 0 → ⊥) → k ≡ class_in p a
    → c ≡ cell_in (get_or ws a 0) → r ≡ impossible k a c → Refutes p r
hindered p ws a k c r v z ke ce re =
    record {
      none = λ t.
          hopeless p ws a v (word_seen (get_or ws a 0) z)
          (ap (λ (x : Class). impossible x a (cell_in (get_or ws a 0))) (sym ke) ∙ ap (impossible k a) (sym ce) ∙ sym re ∙ t);
    }
