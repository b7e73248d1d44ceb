-- The word at the front of a text, as its bytes up to the first that is in no word.
-- Assumes nothing.
use Prim.Native.Nat.{ℕ, suc, ◌≤◌}
use native.Mathlib.Omega.{arith}
use mathlib.Core.Path.{◌≡◌, refl, ap}
use mathlib.Core.Bool.{Bool}
use mathlib.Core.List.{List, [], ◌∷◌}
use lib.ListN.{length}
use Rattle.std.specs.List.{take_while}
use Rattle.std.proofs.lemmas.List.Sums.{take_while-cons}
use Rattle.slices.proofs.Bools.{by_test}
use Rattle.spelling.specs.Words.{in_word, word_length}

pub word_counted : (only : Bool) (l : List ℕ) → length (take_while (in_word only) l) ≡ word_length only l
unfolding word_length
word_counted only [] = refl
word_counted only (c ∷ l) =
    by_test (in_word only c)
    (λ e. rw (take_while-cons (in_word only) c l, e) (ap suc (word_counted only l)))
    (λ e. rw (take_while-cons (in_word only) c l, e))

pub word_within : (only : Bool) (l : List ℕ) → word_length only l ≤ length l
unfolding word_length
word_within only [] = omega arith
word_within only (c ∷ l) = by_test (in_word only c) (λ e. rw e (omega (arith, word_within only l))) (λ e. rw e (omega arith))
