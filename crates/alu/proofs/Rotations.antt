-- Rol reads neither Rb's byte nor the carry flag, so rols in a row are those with 0 in both; and of these one test, computed over the 256 bytes,
-- shows that n of them give every byte back.
-- Assumes nothing.
use Rattle.std.proofs.Common.{◌≡◌, ℕ, zero, suc, Bool, true, false, eqb, refl, ap, ◌∙◌, eqb-true}
use Rattle.slices.proofs.Below.{at, all_below}
use Rattle.alu.specs.Alu.{alu_of, rolled, RolsGiveBack}

-- n rols of x with 0 in both
abbrev rotated : ℕ → ℕ → ℕ
rotated zero x = x
rotated (suc n) x = (alu_of 0b1111 (rotated n x) 0 false).value

rolled_rotates : (n : ℕ) (y : ℕ → ℕ) (c : ℕ → Bool) (x : ℕ) → rolled n y c x ≡ rotated n x
unfolding rolled alu_of
rolled_rotates zero y c x = refl
rolled_rotates (suc n) y c x = ap (rotated 1) (rolled_rotates n y c x)

-- whether n rols give x back
abbrev back : ℕ → ℕ → Bool
back n x = eqb (rotated n x) x

pub give_back : (n : ℕ) → all_below (back n) 256 ≡ true → RolsGiveBack n
give_back n h y c x l = rolled_rotates n y c x ∙ eqb-true _ _ (at (back n) 256 h x l)
