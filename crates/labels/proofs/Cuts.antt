-- A text cut at its line feeds: its first line and the lines after it; the loop to the next line feed; and where a loop over the lines stands.
-- Assumes nothing.
use Prim.Native.Nat.{ℕ, zero, suc, ◌+◌, ◌-◌, ◌≤◌, ◌<◌, min}
use native.Mathlib.Omega.{arith}
use mathlib.Core.Path.{◌≡◌, refl, sym, ap, subst, ◌∙◌}
use mathlib.Core.Bool.{not}
use mathlib.Core.List.{List, [], ◌∷◌}
use Rattle.std.specs.List.{take_while}
use Rattle.std.proofs.lemmas.List.Sums.{take_while-cons}
use lib.Dec.{eqb, ltb}
use lib.ListN.{length, get_or, take, drop, drop_of_length-le, length-drop}
use lib.Seq.{drop-drop}
use borrow.Author.Tests.{ltb-true, ltb-false}
use Rattle.slices.proofs.Bools.{by_test}
use Rattle.labels.specs.Lines.{on_first, lines_of}
use Rattle.labels.specs.internal.Search.{cut_of, IsLine}
use Rattle.labels.specs.internal.Turns.{Turn, GivesLine}
use Rattle.labels.specs.declared.Line.{Line}
use Rattle.labels.specs.declared.Lines.{Lines}
use Rattle.std.specs.Prelude.{Some, None}

-- the first line of a text and the lines after it
lines_cut : (t : List ℕ) → 0 < length t → lines_of t ≡ take (cut_of t) t ∷ lines_of (drop (suc (cut_of t)) t)
unfolding lines_of cut_of
lines_cut [] h = absurd (omega arith)
lines_cut (c ∷ []) h = by_test (eqb c 10) (λ e. rw e) (λ e. rw e)
lines_cut (c ∷ (d ∷ t)) h = by_test (eqb c 10) (λ e. rw e) (λ e. rw e (ap (on_first c) (lines_cut (d ∷ t) (omega arith))))

-- the bytes before the first line feed
pub cut_counted : (t : List ℕ) → length (take_while (λ c. not (eqb c 10)) t) ≡ cut_of t
unfolding cut_of
cut_counted [] = refl
cut_counted (c ∷ t) =
    by_test (eqb c 10)
    (λ e. rw (take_while-cons (λ c. not (eqb c 10)) c t, e))
    (λ e. rw (take_while-cons (λ c. not (eqb c 10)) c t, e) (ap suc (cut_counted t)))

pub cut_within : (t : List ℕ) → cut_of t ≤ length t
unfolding cut_of
cut_within [] = omega arith
cut_within (c ∷ t) = by_test (eqb c 10) (λ e. rw e (omega arith)) (λ e. rw e (omega (arith, cut_within t)))

-- the lines left after the one that ends at e
lines_after : (t : List ℕ) (at e a : ℕ) → at < length t → e ≡ at + cut_of (drop at t) → e ≤ length t → a ≡ min (e + 1) (length t)
    → lines_of (drop at t) ≡ take (e - at) (drop at t) ∷ lines_of (drop a t)
lines_after t at e a h f g m =
    let c : e - at ≡ cut_of (drop at t) = omega arith in
    let l : 0 < length (drop at t) = omega (arith, length-drop at t) in
    let d : drop (suc (cut_of (drop at t))) (drop at t) ≡ drop a t =
    drop-drop (suc (cut_of (drop at t))) at t ∙ by_test (ltb e (length t))
    (λ k. let q : at + suc (cut_of (drop at t)) ≡ a = omega (arith, ltb-true e (length t) k) in rw q)
    (λ k. let q = ltb-false e (length t) k in
    let u : length t ≤ at + suc (cut_of (drop at t)) = omega arith in
    let v : length t ≤ a = omega arith in
    drop_of_length-le t u ∙ sym (drop_of_length-le t v)) in
    rw (c, ← d) (lines_cut (drop at t) l)

pub line_turned : (t : List ℕ) (at e a : ℕ) → at < length t → e ≡ at + cut_of (drop at t) → e ≤ length t → a ≡ min (e + 1) (length t)
    → Turn t at (take (e - at) (drop at t)) a
line_turned t at e a h f g m = record { later = omega arith; within = omega arith; first = lines_after t at e a h f g m }

-- no line is left past the end
pub lines_over : (t : List ℕ) (at : ℕ) → length t ≤ at → lines_of (drop at t) ≡ []
lines_over t at h = rw (drop_of_length-le t h) (unfold lines_of in refl)

-- a loop over the lines stands at line k, which begins at a place
pub record AtLine (t : List ℕ) (at k : ℕ) : Type 0 where
  pub within : at ≤ length t
  pub few : k ≤ at + 1
  pub from : 1 ≤ k
  pub rest : drop (k - 1) (lines_of t) ≡ lines_of (drop at t)

pub line_starts : {t : List ℕ} → AtLine t 0 1
line_starts = record { within = omega arith; few = omega arith; from = omega arith; rest = refl }

get_d_drop : (ls : List (List ℕ)) (n : ℕ) (l : List ℕ) (rest : List (List ℕ)) → drop n ls ≡ l ∷ rest → (get_or ls n [] ≡ l) × (n < length ls)
get_d_drop [] n l rest e = absurd (omega (arith, ap length e, length-drop {A = List ℕ} n []))
get_d_drop (x ∷ ls) zero l rest e = (cc, omega arith)
get_d_drop (x ∷ ls) (suc n) l rest e = let r = get_d_drop ls n l rest e in (r.0, omega (arith, r.1))

module _ {t l : List ℕ} {at k a : ℕ} (r : AtLine t at k) (n : Turn t at l a) where
  pub this_line : IsLine t k l
  this_line =
      let d = get_d_drop (lines_of t) (k - 1) l _ (r.rest ∙ n.first) in
      record { from = r.from; within = omega (arith, d.1, r.from); is = d.0 }

  pub line_goes : AtLine t a (k + 1)
  line_goes =
      let one : k + 1 - 1 ≡ (k - 1) + 1 = omega (arith, r.from) in
      record {
        within = n.within;
        few = omega (arith, r.few, n.later);
        from = omega arith;
        rest = rw one (sym (drop-drop 1 (k - 1) (lines_of t)) ∙ ap (drop 1) (r.rest ∙ n.first));
      }

-- what a loop over the lines is handed at a turn, and what it knows behind the last
module _ {t : List ℕ} (s r : Lines) (e : s.text.now ≡ t) where
  pub given : (line : Line) → GivesLine s (Some line) r
      → Turn t s.at line.bytes.now r.at × (line.start ≡ s.at) × (line.number ≡ s.number) × (r.text.now ≡ t) × (r.number ≡ s.number + 1)
  given line w = (subst (λ (x : List ℕ). Turn x s.at line.bytes.now r.at) e w.0, w.1, w.2, w.3 ∙ e, w.4)

  pub over : GivesLine s None r → lines_of (drop s.at t) ≡ []
  over w = subst (λ (x : List ℕ). lines_of (drop s.at x) ≡ []) e w.0
