-- What a test of two bools tells.
-- Assumes nothing.
use mathlib.Core.Path.{◌≡◌, refl}
use mathlib.Core.Bool.{Bool, true, false, ◌&&◌, ◌||◌}

-- by the two cases of a test, with the equation
pub by_test {ℓ} : {A : Type ℓ} (t : Bool) → (t ≡ true → A) → (t ≡ false → A) → A
by_test true f g = f refl
by_test false f g = g refl

pub both : (a b : Bool) → a && b ≡ true → (a ≡ true) × (b ≡ true)
both true b h = (refl, h)
both false b h = (cc, cc)

pub neither : (a b : Bool) → a || b ≡ false → (a ≡ false) × (b ≡ false)
neither true b h = (cc, cc)
neither false b h = (refl, h)

-- tests that fail
pub and_off : (a b : Bool) → (a ≡ true → b ≡ false) → a && b ≡ false
and_off true b h = h refl
and_off false b h = refl

pub or_off : (a b : Bool) → a ≡ false → b ≡ false → a || b ≡ false
or_off a b p q = rw (p, q)
