-- The shape of the row of entries, by calls and depths, and where the stack bank holds it.
-- Assumes nothing.
use Prim.Native.Nat.{ℕ, suc, ◌+◌, ◌-◌, ◌≤◌, ◌<◌}
use native.Mathlib.Omega.{arith}
use mathlib.Core.Path.{◌≡◌, ap, ◌∙◌, subst}
use mathlib.Core.List.{List, [], ◌∷◌}
use mathlib.Core.Bool.{true, false}
use lib.ListN.{length, get_or, set}
use lib.Seq.{get_or-set_same, get_or-set_other}
use Rattle.rules.specs.Sheet.{Listing, described, marked, routine, depth, need}
use Rattle.rules.specs.Tally.{Entry, byte, return_to}

module _ (L : Listing) where
  -- The entries are those of the routine r at the depth d above its callers' entries: d bytes of its own, then a return address a
  -- at which the caller goes on, and so on down to routine 0
  pub data Frames : (r d : ℕ) → List Entry → Type 0 where
    bottom : Frames 0 0 []
    pushed : {r d : ℕ} {row : List Entry} (b : ℕ) → Frames r d row → Frames r (suc d) (byte b r ∷ row)
    called : {row : List Entry} (a q : ℕ) → described L a ≡ true → marked L a ≡ false → depth L a + 1 + need L q ≤ need L (routine L a)
        → Frames (routine L a) (depth L a) row → Frames q 0 (return_to a ∷ row)

  -- the entries and what the routine may still add are at most routine 0's need
  pub frames_bound : {r d : ℕ} {row : List Entry} → Frames r d row → length row + need L r ≤ need L 0 + d
  frames_bound bottom = omega arith
  frames_bound (pushed b f) = omega (arith, frames_bound f)
  frames_bound (called a q e m h f) = omega (arith, frames_bound f)

  -- the last entry of a routine that has bytes of its own, and of one that has none and is not routine 0
  pub data LastOwn (r d : ℕ) : List Entry → Type 0 where
    last_own : {row : List Entry} (b : ℕ) → Frames r d row → LastOwn r d (byte b r ∷ row)

  pub data LastReturn : List Entry → Type 0 where
    last_return : {row : List Entry} (a : ℕ) → described L a ≡ true → marked L a ≡ false → Frames (routine L a) (depth L a) row → LastReturn (return_to a ∷ row)

  pub own_last : {r d : ℕ} {row : List Entry} → Frames r d row → 0 < d → LastOwn r (d - 1) row
  own_last bottom h = absurd (omega arith)
  own_last (pushed {r = r} {d = d} {row = row} b f) h = last_own b (subst (λ (n : ℕ). Frames r n row) (omega arith) f)
  own_last (called a q e m k f) h = absurd (omega arith)

  pub return_last : {r d : ℕ} {row : List Entry} → Frames r d row → 0 < r → d ≡ 0 → LastReturn row
  return_last bottom h z = absurd (omega arith)
  return_last (pushed b f) h z = absurd (omega arith)
  return_last (called a q e m k f) h z = last_return a e m f

-- the byte that the stack holds for an entry
abbrev pub byte_of : Entry → ℕ
byte_of (byte b r) = b
byte_of (return_to a) = a

-- the stack holds the entries, the last of them at 255 less their number
abbrev pub Held : List ℕ → List Entry → Type 0
Held st [] = Unit {0}
Held st (e ∷ row) = (get_or st (255 - length (e ∷ row)) 0 ≡ byte_of e) × Held st row

-- a store below the entries leaves them
pub held_below : (st : List ℕ) (p b : ℕ) (row : List Entry) → p + length row < 255 → Held st row → Held (set st p b) row
held_below st p b [] h k = tt
held_below st p b (e ∷ row) h k =
    (get_or-set_other st p (255 - length (e ∷ row)) b 0 (omega arith) ∙ k.0, held_below st p b row (omega arith) k.1)

-- a push holds one entry more
pub held_push : (st : List ℕ) (p : ℕ) (e : Entry) (row : List Entry) → length st ≡ 256 → p + suc (length row) ≡ 255 → Held st row → Held (set st p (byte_of e)) (e ∷ row)
held_push st p e row l h k =
    let q : 255 - suc (length row) ≡ p = omega arith in
    (ap (λ (j : ℕ). get_or (set st p (byte_of e)) j 0) q ∙ get_or-set_same st p (byte_of e) 0 (omega arith), held_below st p (byte_of e) row (omega arith) k)

-- the last entry is at SP
pub held_last : (st : List ℕ) (sp : ℕ) (e : Entry) (row : List Entry) → sp + suc (length row) ≡ 255 → Held st (e ∷ row) → get_or st sp 0 ≡ byte_of e
held_last st sp e row h k = let q : sp ≡ 255 - suc (length row) = omega arith in ap (λ (j : ℕ). get_or st j 0) q ∙ k.0
