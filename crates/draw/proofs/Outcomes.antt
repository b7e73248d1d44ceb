-- From the sizes and the judgement to the outcome of a call.
-- Assumes nothing.
use Prim.Native.Nat.{ℕ}
use mathlib.Core.Path.{◌≡◌, sym, ◌∙◌}
use mathlib.Core.List.{List}
use Rattle.std.specs.Prelude.{Option, None}
use lib.ListN.{length}
use borrow.Author.Tests.{eqb-true, not-false}
use Rattle.slices.proofs.Checks.{none_broken}
use Rattle.drawings.specs.Drawn.{Lent, outcome, size_checks, size_fault, refused, bad_size, none_admitted, draws, DrawnAs}
use Rattle.drawings.proofs.Promises.{numbered, promised}
use Rattle.judging.specs.internal.Judging.{Accepted, Judged}

sized : (c : Lent) → size_fault c ≡ 0 → (length c.sheet ≡ 512) × (length c.list ≡ 128)
unfolding size_fault
sized c e =
    let n = none_broken (size_checks c) (numbered c) e in
    (eqb-true _ _ (not-false _ n.1.0), eqb-true _ _ (not-false _ n.1.1.0))

-- a buffer lent is as long as the one that is copied into it
pub sheet_fits : (c : Lent) {n k : ℕ} → n ≡ size_fault c → n ≡ 0 → k ≡ 512 → length c.sheet ≡ k
sheet_fits c e z l = (sized c (sym e ∙ z)).0 ∙ sym l

pub list_fits : (c : Lent) {n k : ℕ} → n ≡ size_fault c → n ≡ 0 → k ≡ 128 → length c.list ≡ k
list_fits c e z l = (sized c (sym e ∙ z)).1 ∙ sym l

pub size_refused : (c : Lent) (n : ℕ) → n ≡ size_fault c → (n ≡ 0 → ⊥) → DrawnAs c (refused n c)
size_refused c n e h = rw e (promised (bad_size (λ z. h (e ∙ z))))

pub none_drawn : (c : Lent) {s l : List ℕ} {n : ℕ} {d r : Option ℕ} → n ≡ size_fault c → n ≡ 0 → Judged c.program s l d r → r ≡ None → DrawnAs c (refused 27 c)
none_drawn c e z j q = promised (none_admitted (sym e ∙ z) (j.refuses q))

pub all_drawn :
    (c : Lent) {s l s' l' : List ℕ} {n k : ℕ} → n ≡ size_fault c → n ≡ 0 → Accepted c.program s l k → s' ≡ s → l' ≡ l
    → DrawnAs c (outcome 0 k s' l')
all_drawn c {s} {l} {s'} {l'} {n} {k} e z a u v = rw (u, v, a.buffer_is, a.count) (promised (draws (sym e ∙ z) s a.list a.drawn))
