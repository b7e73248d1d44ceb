-- A fact of every form, shown once of the forty with variables in their fields.
-- Assumes nothing.
use Prim.Native.Nat.{ℕ, zero, suc}
use mathlib.Core.Path.{◌≡◌, ap, subst}
use mathlib.Core.List.{List, [], ◌∷◌, ◌++◌}
use lib.ListN.{get_or}
use Rattle.slices.specs.Lists.{mapped}
use Rattle.isa.specs.Decode.{forms}
use Rattle.isa.specs.declared.Instr.{Instr}
use Rattle.isa.specs.declared.Instr.TheVariants.{Nop}
use Rattle.numbers.specs.Numbers.{fields_of, instr_of}
use Rattle.numbers.specs.declared.Fields.{Fields}
use Rattle.numbers.proofs.FieldsInverse.{fields_inverse}

module _ {A : Type 0} (P : A → Type 0) where
  abbrev pub All : List A → Type 0
  All [] = Unit {0}
  All (x ∷ l) = P x × All l

  pub all_append : (xs ys : List A) → All xs → All ys → All (xs ++ ys)
  all_append [] ys a b = b
  all_append (x ∷ xs) ys a b = (a.0, all_append xs ys a.1 b)

  pub all_at : (l : List A) (d : A) → All l → P d → (n : ℕ) → P (get_or l n d)
  all_at [] d h p n = p
  all_at (x ∷ l) d h p zero = h.0
  all_at (x ∷ l) d h p (suc n) = all_at l d h.1 p n

pub each_form : (P : Instr → Type 0) → P Nop → ((d a f b n : ℕ) → All P (forms d a f b n)) → (i : Instr) → P i
each_form P p h i = subst P (fields_inverse i) (in_table (fields_of i))
  where
    in_table : (x : Fields) → P (instr_of x)
    in_table x = unfold instr_of in all_at P (forms x.1 x.2 x.3 x.4 x.5) Nop (h x.1 x.2 x.3 x.4 x.5) p x.0

module _ {B : Type 0} (p q : Instr → B) where
  all_same : (l : List Instr) → mapped p l ≡ mapped q l → All (λ (i : Instr). p i ≡ q i) l
  all_same [] e = tt
  all_same (i ∷ l) e = (cc, all_same l (cc))

  -- two functions of forms are equal if their tables are
  pub by_forms : ((d a f b n : ℕ) → mapped p (forms d a f b n) ≡ mapped q (forms d a f b n)) → (i : Instr) → p i ≡ q i
  by_forms e =
      each_form (λ (i : Instr). p i ≡ q i) (ap (λ (l : List B). get_or l 39 (p Nop)) (e 0 0 0 0 0))
      (λ d a f b n. all_same (forms d a f b n) (e d a f b n))
