-- From settled words to a draft, and from admission's answer on it to what it tells.
-- Assumes nothing.
use Prim.Native.Nat.{ℕ, ◌*◌, ◌≤◌, ◌<◌}
use native.Mathlib.Omega.{arith}
use mathlib.Core.Path.{◌≡◌, refl, sym, ap, ◌∙◌, subst}
use mathlib.Core.List.{List, ◌++◌}
use mathlib.Core.Bool.{Bool, false}
use lib.ListN.{length, set, replicate}
use lib.Seq.{take_at, take-take}
use borrow.Author.Tests.{eqb-true, eqb-false}
use Rattle.std.specs.Prelude.{Option, None, Some, cond, eqb}
use Rattle.model.specs.Step.{Program}
use Rattle.rules.specs.Grounds.{admit_of}
use Rattle.rules.specs.Sheet.{routines}
use Rattle.slices.specs.Parts.{part_of, padded}
use Rattle.slices.proofs.Bools.{by_test}
use Rattle.drawings.specs.Drawn.{listed}
use Rattle.drawings.specs.internal.Cells.{packed}
use Rattle.drawings.specs.internal.Drafts.{rank, sheet_of, list_of, draft_of}
use Rattle.drawings.specs.internal.Impossible.{Settles}
use Rattle.drawings.specs.internal.Visits.{start, Settled}
use Rattle.drawings.proofs.DraftParts.{list_length}
use Rattle.drawings.proofs.Drafted as theorem
use Rattle.judging.specs.internal.Judging.{Draft, Drafted, Accepted, Judged}

-- ---- a draft

pub first_words : set (replicate 256 0) 0 33554432 ≡ start
unfolding start packed
first_words = refl

pub not_settled : {p : Program} {ws s l : List ℕ} {r : Bool} → Settles p ws r → r ≡ false → Drafted p s l None
not_settled r e = record { none = λ _. r.none e; empty = λ z. absurd cc; some = λ n q. absurd cc }

pub too_many : {p : Program} {ws s l : List ℕ} {n : ℕ} → Settled p ws → n ≡ rank ws 256 → 64 < n → Drafted p s l None
too_many {p} {ws} v e h = record { none = λ _. theorem.too_many p ws v (omega arith); empty = λ z. absurd cc; some = λ n q. absurd cc }

pub drafted :
    {p : Program} {ws s l : List ℕ} {n : ℕ} → Settled p ws → n ≡ rank ws 256 → n ≤ 64 → s ≡ sheet_of ws → l ≡ padded 128 (list_of ws)
    → Drafted p s l (Some n)
drafted {p} {ws} {s} {l} {n} v e h q w =
    let d : Draft p s l n = record { words = ws; settled = v; count = e; few = h; sheet_is = q; list_is = w } in
    record { none = λ z. absurd cc; empty = λ z. let zero : n ≡ 0 = cc in theorem.no_routines p ws v (sym e ∙ zero); some = λ k z. let same : n ≡ k = cc in subst (Draft p s l) same d }

-- ---- admission's answer

-- the part of the buffer that admission is lent
pub unpadded : (l : List ℕ) (n : ℕ) → length l ≡ n → n ≤ 128 → part_of (padded 128 l) 0 n ≡ l
unpadded l n e h = take-take n 128 (l ++ replicate 128 0) h ∙ take_at l (replicate 128 0) n e

count_drafted : (p : Program) (ws : List ℕ) → length (list_of ws) ≡ 2 * rank ws 256
unfolding draft_of
count_drafted p ws = list_length p ws

module _ (p : Program) (s l : List ℕ) (n : ℕ) (answer : ℕ) {part : List ℕ} (f : Draft p s l n) (lends : part ≡ part_of l 0 (2 * n))
    (e : answer ≡ admit_of (listed p s part)) where
  is_list : part ≡ list_of f.words
  unfolding draft_of routines
  is_list =
      let c = f.count in
      let few = f.few in
      let long : length (list_of f.words) ≡ 2 * n = count_drafted p f.words ∙ ap (λ (k : ℕ). 2 * k) (sym c) in
      lends ∙ ap (λ (x : List ℕ). part_of x 0 (2 * n)) f.list_is ∙ unpadded (list_of f.words) (2 * n) long (omega arith)

  is_answer : answer ≡ admit_of (draft_of p f.words)
  unfolding draft_of
  is_answer =
      e ∙ ap (λ (x : List ℕ). admit_of (listed p x part)) f.sheet_is ∙ ap (λ (x : List ℕ). admit_of (listed p (sheet_of f.words) x)) is_list

  pub accepted : answer ≡ 0 → Accepted p s l n
  unfolding draft_of routines
  accepted q =
      let c = f.count in
      let long : length (list_of f.words) ≡ 2 * n = count_drafted p f.words ∙ ap (λ (k : ℕ). 2 * k) (sym c) in
      record {
        list = list_of f.words;
        drawn = rw f.sheet_is (theorem.draft_drawn p f.words f.settled (sym is_answer ∙ q));
        buffer_is = f.list_is;
        count = omega arith;
        few = f.few;
      }

  accepting : {d : Option ℕ} → d ≡ Some n → answer ≡ 0 → Judged p s l d (Some n)
  accepting w q = record { same = λ k z. w ∙ z; accepts = λ k z. let same : n ≡ k = cc in subst (Accepted p s l) same (accepted q); refuses = λ z. absurd cc }

  pub turned_down : {d : Option ℕ} → (answer ≡ 0 → ⊥) → Judged p s l d None
  turned_down h = record { same = λ k z. absurd cc; accepts = λ k z. absurd cc; refuses = λ _. theorem.none_admitted p f.words f.settled (λ z. h (is_answer ∙ z)) }

  -- the routines are handed on just where admission answers 0
  pub judged : {d r : Option ℕ} → d ≡ Some n → r ≡ cond (eqb answer 0) (Some n) None → Judged p s l d r
  judged w v = rw v
      (by_test (eqb answer 0)
      (λ t. rw t (accepting w (eqb-true answer 0 t)))
      (λ t. rw t (turned_down (eqb-false answer 0 t))))

pub nothing_judged : (p : Program) (s l : List ℕ) → Drafted p s l None → Judged p s l None None
nothing_judged p s l d = record { same = λ k z. z; accepts = λ k z. absurd cc; refuses = λ _. d.none refl }
