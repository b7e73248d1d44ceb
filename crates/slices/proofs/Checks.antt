-- The first broken of a list of checks: it is 0 exactly if none is broken, and else the number and place of one before which all hold.
-- Assumes nothing.
use mathlib.Core.Path.{◌≡◌, refl, ap}
use mathlib.Core.List.{List, [], ◌∷◌}
use Prim.Native.Nat.{◌+◌, ◌*◌, ◌<◌}
use native.Mathlib.Omega.{arith}
use Rattle.slices.specs.Checks.{Check, first_broken, NoneBroken, Named, FirstViolation}
use Rattle.slices.proofs.Bools.{by_test}

-- each has a number
abbrev pub Numbered : List Check → Type 0
Numbered [] = Unit {0}
Numbered (c ∷ cs) = (0 < c.number) × Numbered cs

pub none_broken : (cs : List Check) → Numbered cs → first_broken cs ≡ 0 → NoneBroken cs
unfolding first_broken
none_broken [] p e = tt
none_broken (c ∷ cs) p e =
    by_test c.broken (λ q. let z : c.number + 256 * c.place ≡ 0 = rw (q, first_broken) at e in absurd (omega (arith, p.0)))
    (λ q. (q, none_broken cs p.1 (rw (q, first_broken) at e)))

pub all_hold : (cs : List Check) → NoneBroken cs → first_broken cs ≡ 0
unfolding first_broken
all_hold [] p = refl
all_hold (c ∷ cs) p = rw (p.0, first_broken) (all_hold cs p.1)

pub named : (cs : List Check) → (first_broken cs ≡ 0 → ⊥) → Named cs (first_broken cs)
unfolding first_broken
named [] h = absurd (h refl)
named (c ∷ cs) h =
    by_test c.broken
    (λ q. record { before = []; this = c; after = cs; split = refl; hold = tt; breaks = q; names = rw (q, first_broken) })
    (λ q.
    let n = named cs (λ z. h (rw (q, first_broken) z)) in
    record {
      before = c ∷ n.before;
      this = n.this;
      after = n.after;
      split = ap (λ (l : List Check). c ∷ l) n.split;
      hold = (q, n.hold);
      breaks = n.breaks;
      names = rw (q, first_broken) n.names;
    })

pub first_violation : (cs : List Check) → Numbered cs → FirstViolation cs (first_broken cs)
first_violation cs p =
    record { accepts = all_hold cs; refuses = λ broken. named cs (λ e. broken (none_broken cs p e)) }
