-- The invariant of the page's loop: the lines of the addresses that are left, written from here, leave the page of them all.
-- Assumes nothing.
use Prim.Native.Nat.{ℕ, suc, ◌+◌, ◌-◌, ◌≤◌, ◌<◌}
use mathlib.Core.Path.{◌≡◌, refl, sym, ap, ◌∙◌, subst}
use mathlib.Core.List.{List, [], ◌∷◌}
use native.Mathlib.Omega.{arith}
use lib.ListN.{length}
use Rattle.slices.specs.Sizes.{bank_size}
use Rattle.pages.specs.Page.{Page, page, write_of}
use Rattle.pages.proofs.Pages.{write_append}
use Rattle.model.specs.Step.{Program}
use Rattle.ranking.specs.Busier.{is_executed, busier}
use Rattle.ranking.specs.internal.Selection.{none, first_below, list_after, ranked_by}
use Rattle.ranking.proofs.Order.{busier_order}
use Rattle.ranking.proofs.Ranks.{first_most, list_ends, list_goes, list_none}
use Rattle.busy_runs.specs.Lines.{line_of, lines_of}
use Rattle.busy_runs.specs.internal.Writing.{Narrow, AllNarrow, PageWritten}

module _ (p : Program) (counters : List ℕ) where
  abbrev pub next : ℕ → ℕ
  next last = first_below (busier counters) (is_executed counters) last bank_size

  pub next_below : {a : ℕ} (last : ℕ) → a ≡ next last → (a ≡ none → ⊥) → a < bank_size
  next_below {a} last e some = omega (arith, first_most (busier counters) (is_executed counters) last bank_size (omega arith))

  -- those that are left behind `last`
  abbrev rest : ℕ → ℕ → List ℕ
  rest n last = list_after (busier counters) (is_executed counters) n last

  pub record PageLoop (out₀ : List ℕ) (lines last : ℕ) (q : Page) : Type 0 where
    pub within : lines ≤ bank_size
    pub room : length q.bytes ≡ length out₀
    pub left : write_of (lines_of p counters (rest (bank_size - lines) last)) q ≡ write_of (lines_of p counters (ranked_by counters)) (page out₀ 0)
    pub counted : lines + length (rest (bank_size - lines) last) ≡ length (ranked_by counters)
    pub narrow : AllNarrow p (rest (bank_size - lines) last) → AllNarrow p (ranked_by counters)

  pub page_starts : (out : List ℕ) → PageLoop out 0 none (page out 0)
  unfolding ranked_by
  page_starts out = record { within = omega arith; room = refl; left = refl; counted = omega arith; narrow = λ n. n }

  module _ {out₀ : List ℕ} {lines last : ℕ} {q : Page} (g : PageLoop out₀ lines last q) where
    -- none is left
    done : rest (bank_size - lines) last ≡ [] → PageWritten p counters out₀ lines q.bytes
    unfolding lines_of write_of
    done e =
        record {
          bytes = ap (λ (q : Page). q.bytes) (sym (ap (λ (l : List ℕ). write_of (lines_of p counters l) q) e) ∙ g.left);
          lines_are = let n = ap length e in omega (arith, g.counted);
          narrow = g.narrow (subst (AllNarrow p) (sym e) tt);
        }

    some : lines < bank_size → bank_size - lines ≡ suc (bank_size - (lines + 1))
    some h = omega arith

    pub page_ends : lines < bank_size → next last ≡ none → PageWritten p counters out₀ lines q.bytes
    page_ends h e = done (ap (λ (n : ℕ). rest n last) (some h) ∙ list_ends (busier_order counters) (is_executed counters) (bank_size - (lines + 1)) last e)

    pub page_full : bank_size ≤ lines → PageWritten p counters out₀ bank_size q.bytes
    page_full h =
        let z : bank_size - lines ≡ 0 = omega arith in
        let e : lines ≡ bank_size = omega (arith, g.within) in
        subst (λ (n : ℕ). PageWritten p counters out₀ n q.bytes) e
        (done (ap (λ (n : ℕ). rest n last) z ∙ list_none (busier_order counters) (is_executed counters) last))

    pub page_goes : {a : ℕ} {r : Page} → lines < bank_size → a ≡ next last → (a ≡ none → ⊥) → length r.bytes ≡ length q.bytes
        → r ≡ write_of (line_of p counters a) q → Narrow p a → PageLoop out₀ (lines + 1) a r
    unfolding lines_of
    page_goes {a} {r} h e some_left room w narrow =
        let more : rest (bank_size - lines) last ≡ a ∷ rest (bank_size - (lines + 1)) a =
        ap (λ (n : ℕ). rest n last) (some h)
        ∙ list_goes (busier_order counters) (is_executed counters) (bank_size - (lines + 1)) last (λ z. some_left (e ∙ z))
        ∙ ap (λ (x : ℕ). x ∷ rest (bank_size - (lines + 1)) x) (sym e) in
        record {
          within = omega arith;
          room = room ∙ g.room;
          left =
              ap (write_of (lines_of p counters (rest (bank_size - (lines + 1)) a))) w
              ∙ sym (write_append (line_of p counters a) (lines_of p counters (rest (bank_size - (lines + 1)) a)) q)
              ∙ sym (ap (λ (l : List ℕ). write_of (lines_of p counters l) q) more)
              ∙ g.left;
          counted = let n = ap length more in omega (arith, g.counted);
          narrow = λ n. g.narrow (subst (AllNarrow p) (sym more) (narrow, n));
        }
