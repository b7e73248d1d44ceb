-- A call is the class at place 4 of the enum, and no other.
-- Assumes nothing.
use Rattle.std.proofs.Common.{◌≡◌, ℕ, List, [], ◌∷◌, refl}
use types.Run.{OneOf, miss}
use denote.Enum.Declared.{tag_of}
use Rattle.isa.specs.declared.Class.{Class}
use Rattle.isa.specs.declared.Class.TheVariants as class
use Rattle.isa.specs.contracts.Class.{the_type}
use Rattle.drawings.specs.internal.Demands.{of_call_or}

abbrev others : List ℕ
others = 0 ∷ 1 ∷ 2 ∷ 3 ∷ 5 ∷ 6 ∷ 7 ∷ 8 ∷ 9 ∷ []

pub no_call : {A : Type 0} (f : ℕ → A) (x : A) (k : Class) → OneOf others (tag_of the_type k) → of_call_or f x k ≡ x
no_call f x (class.Next e) h = refl
no_call f x (class.Jump t) h = refl
no_call f x (class.Branch t n) h = refl
no_call f x class.JumpReg h = refl
no_call f x (class.Call t) h = absurd (miss others 4 tt h)
no_call f x class.Return h = refl
no_call f x (class.Push r) h = refl
no_call f x class.Pop h = refl
no_call f x (class.Swap r) h = refl
no_call f x class.Halt h = refl
