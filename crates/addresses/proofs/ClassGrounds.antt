-- The rules 9 to 16 by class, in the tests that the code makes.
-- Assumes nothing.
use Rattle.std.proofs.Common.{◌≡◌, ℕ, ◌+◌, ◌*◌, ◌%◌, Bool, cond, not, ◌&&◌, ◌||◌, eqb, ltb, List, []}
use mathlib.Core.Bool.{and-true, and-false, or-false}
use Rattle.isa.specs.declared.Class.TheVariants as class
use Rattle.isa.specs.declared.OverflowEffect.TheVariants.{Keeps}
use Rattle.slices.specs.Checks.{first_broken}
use Rattle.rules.specs.Sheet.{word, described, marked, routine, depth}
use Rattle.addresses.specs.internal.Parts.{without_banks, class_checks}
use Rattle.sheets.specs.internal.Tests.{bad_word}
use Rattle.sheets.specs.internal.Words.{word_of}

module _ (s : List ℕ) (a r d : ℕ) (v : Bool) where
  pub next_word : cond (eqb a 255) (13 + 256 * a) (cond (bad_word (word_of s ((a + 1) % 256)) r d v) (16 + 256 * a) 0)
      ≡ first_broken (class_checks (without_banks s []) a (class.Next Keeps) r d v)
  unfolding first_broken word described marked routine depth word_of
  next_word = rw (and-true (eqb a 255), or-false (bad_word (word_of s ((a + 1) % 256)) r d v))

  pub branch : (t : ℕ) (tests : Bool)
      → cond (tests && not v) (10 + 256 * a) (cond (eqb a 255) (13 + 256 * a)
      (cond (bad_word (word_of s t) r d v || bad_word (word_of s ((a + 1) % 256)) r d v) (16 + 256 * a) 0))
      ≡ first_broken (class_checks (without_banks s []) a (class.Branch t tests) r d v)
  unfolding first_broken word described marked routine depth word_of
  branch t tests = rw (and-true (eqb a 255), or-false (bad_word (word_of s ((a + 1) % 256)) r d v))

  module _ (l : List ℕ) where
    pub jump : (t : ℕ) → cond (bad_word (word_of s t) r d v) (16 + 256 * a) 0 ≡ first_broken (class_checks (without_banks s l) a (class.Jump t) r d v)
    unfolding first_broken word described marked routine depth word_of
    jump t = rw (and-false (eqb a 255), or-false (bad_word (word_of s t) r d v))

    pub return : cond (eqb r 0 || ltb 0 d) (12 + 256 * a) 0 ≡ first_broken (class_checks (without_banks s l) a class.Return r d v)
    unfolding first_broken
    return = rw (and-false (eqb a 255))

    pub halt : 0 ≡ first_broken (class_checks (without_banks s l) a class.Halt r d v)
    unfolding first_broken
    halt = rw (and-false (eqb a 255))
