-- Where every entry has a word of its own routine (7), the word at a call's target names the callee: no search is needed.
-- Assumes nothing.
use Rattle.std.proofs.Common.{◌≡◌, ℕ, zero, suc, ◌+◌, ◌*◌, ◌/◌, ◌%◌, ◌<◌, ◌≤◌, Bool, true, false, cond, not, ◌&&◌, eqb, ltb, List, length, get_or, sym, refl, ap, ◌∙◌, zero-add, arith, ltb-true, lt-ltb, eq-eqb, ne_eqb, eqb-true}
use lib.Arith.{lt_of_le-ne}
use mathlib.Core.Bool.{and-true, or-false}
use Rattle.isa.specs.declared.Class.TheVariants as class
use Rattle.model.specs.State.{next_address}
use Rattle.slices.proofs.Bools.{both, by_test}
use Rattle.rules.specs.Grounds.{find, callee, bad_successor}
use Rattle.slices.specs.Checks.{first_broken}
use Rattle.rules.specs.Sheet.{Listing, word, described, marked, routine, depth, routines, entry, need}
use Rattle.rules.specs.Successors.{successor}
use Rattle.rules.proofs.AdmittedRules.{entry_of}
use Rattle.rules.proofs.Tests.{absurd_bool}
use Rattle.addresses.specs.internal.Parts.{without_banks, class_checks, EntriesFit}
use Rattle.sheets.specs.declared.Word.{Word}
use Rattle.sheets.specs.internal.Tests.{bad_word}
use Rattle.sheets.specs.internal.Words.{word_of}

-- ---- a search, where at most one number passes

find_only : (f : ℕ → Bool) (q n i : ℕ) → i ≤ q → q < i + n → f q ≡ true → ((r : ℕ) → i ≤ r → r < i + n → f r ≡ true → r ≡ q) → find f i n ≡ q
unfolding find
find_only f q zero i l h t only = absurd (omega arith)
find_only f q (suc n) i l h t only =
    by_test (f i) (λ e. rw (e, find) (only i (omega arith) (omega arith) e))
    (λ e.
    let past : i < q = lt_of_le-ne l (λ z. absurd_bool (sym (ap f z ∙ t) ∙ e)) in
    rw (e, find) (find_only f q n (suc i) past (omega arith) t (λ r l' h' e'. only r (omega arith) (omega arith) e')))

find_none : (f : ℕ → Bool) (n i : ℕ) → ((r : ℕ) → i ≤ r → r < i + n → f r ≡ true → ⊥) → find f i n ≡ i + n
unfolding find
find_none f zero i none = omega arith
find_none f (suc n) i none =
    by_test (f i) (λ e. absurd (none i (omega arith) (omega arith) e))
    (λ e. rw (e, find) (find_none f n (suc i) (λ r l h e'. none r (omega arith) (omega arith) e') ∙ omega arith))

-- ---- the callee

module _ (L : Listing) (fit : EntriesFit L) (t : ℕ) where
  -- whether the routine that the word at t names is listed with the entry t
  abbrev pub an_entry : Bool
  an_entry = ltb (routine L t) (routines L) && eqb (entry L (routine L t)) t

  -- a listed routine with the entry t is the one that the word at t names
  entry_named : (r : ℕ) → r < routines L → eqb (entry L r) t ≡ true → r ≡ routine L t
  entry_named r h e = sym (entry_of L r (fit r h)).its_own ∙ ap (routine L) (eqb-true (entry L r) t e)

  callee_named : an_entry ≡ true → callee L t ≡ routine L t
  unfolding callee
  callee_named e =
      let k = both (ltb (routine L t) (routines L)) (eqb (entry L (routine L t)) t) e in
      let q = ltb-true (routine L t) (routines L) k.0 in
      find_only (λ r. eqb (entry L r) t) (routine L t) (routines L) 0 (omega arith) (omega arith) k.1 (λ r l h e'. entry_named r (omega arith) e')

  callee_none : an_entry ≡ false → callee L t ≡ routines L
  unfolding callee
  callee_none e =
      find_none (λ r. eqb (entry L r) t) (routines L) 0
      (λ r l h e'.
      let below : r < routines L = omega arith in
      let q = entry_named r below e' in
      let k : an_entry ≡ true = rw (lt-ltb (routine L t) (routines L) (rw (← q) below), ← q) e' in
      absurd (absurd_bool (sym k ∙ e)))
      ∙ zero-add (routines L)

  abbrev CallAnswer : (a r d : ℕ) → Type 0
  CallAnswer a r d =
      cond (eqb a 255) (13 + 256 * a)
      (cond (not an_entry) (14 + 256 * a)
      (cond (ltb (need L r) (d + 1 + need L (routine L t))) (15 + 256 * a)
      (cond (bad_successor L r (successor (next_address a) d false)) (16 + 256 * a) 0)))
      ≡ first_broken (class_checks L a (class.Call t) r d false)

  call_answer : (a r d : ℕ) → CallAnswer a r d
  unfolding first_broken
  call_answer a r d =
      let bad = bad_successor L r (successor (next_address a) d false) in
      by_test an_entry
      (λ e.
      let q = ltb-true (routine L t) (routines L) (both (ltb (routine L t) (routines L)) (eqb (entry L (routine L t)) t) e).0 in
      rw (e, and-true (eqb a 255), or-false bad, callee_named e, ne_eqb (routine L t) (routines L) (omega arith)))
      (λ e. rw (e, and-true (eqb a 255), callee_none e, eq-eqb (routines L) (routines L) refl))

-- the word w at the target names a routine with this entry
abbrev pub entry_there : Word → (l : List ℕ) → (t : ℕ) → Bool
entry_there w l t = ltb w.routine (length l / 2) && eqb (get_or l (2 * w.routine) 0) t

-- the routine's need is less than the call asks
abbrev pub need_below : Word → (l : List ℕ) → (r d : ℕ) → Bool
need_below w l r d = ltb (get_or l (2 * r + 1) 0) (d + 1 + get_or l (2 * w.routine + 1) 0)

pub call : {w : Word} (s l : List ℕ) → EntriesFit (without_banks s l) → (a t r d : ℕ) → w ≡ word_of s t
    → cond (eqb a 255) (13 + 256 * a)
    (cond (not (entry_there w l t)) (14 + 256 * a)
    (cond (need_below w l r d) (15 + 256 * a)
    (cond (bad_word (word_of s ((a + 1) % 256)) r d false) (16 + 256 * a) 0)))
    ≡ first_broken (class_checks (without_banks s l) a (class.Call t) r d false)
unfolding word described marked routine depth routines entry need word_of
call s l fit a t r d e = rw e (call_answer (without_banks s l) fit t a r d)
