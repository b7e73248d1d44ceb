-- The look at every line: the first bad one, the words of the lines before, and the addresses noted.
-- Assumes nothing.
use Prim.Native.Nat.{ℕ, zero, suc, ◌+◌, ◌-◌, ◌%◌, ◌≤◌, ◌<◌}
use native.Mathlib.Omega.{arith}
use mathlib.Core.Path.{◌≡◌, refl, sym, ap, ◌∙◌}
use mathlib.Core.Bool.{Bool}
use mathlib.Core.List.{List, [], ◌∷◌}
use lib.Dec.{eqb}
use Rattle.std.specs.Prelude.{Ok, Err}
use lib.ListN.{length, get_or, take, drop, set, length-set, length-drop}
use lib.Seq.{get_or-set_same, get_or-set_other, take_all}
use borrow.Author.Tests.{eq-eqb, ne_eqb, eqb-true, eqb-false}
use Rattle.slices.proofs.Bools.{by_test}
use Rattle.labels.specs.Lines.{lines_of, size_of}
use Rattle.labels.specs.internal.Search.{more, count_from, Addresses, IsLine, Inspected}
use Rattle.labels.proofs.Cuts.{this_line}
use Rattle.labels.specs.internal.Turns.{Turn}
use Rattle.labels.proofs.Searches.{Searching, search_starts, search_hits, search_goes, search_ends}

abbrev is_bad : List ℕ → ℕ → Bool
is_bad l k = eqb (size_of l) 0

-- the words of one line more
count_more : (ls : List (List ℕ)) (n m : ℕ) → n < length ls → count_from m (take (suc n) ls) ≡ more (count_from m (take n ls)) (size_of (get_or ls n []))
unfolding count_from
count_more [] n m h = absurd (omega arith)
count_more (l ∷ ls) zero m h = refl
count_more (l ∷ ls) (suc n) m h = count_more ls n (more m (size_of l)) (omega arith)

pub record Inspecting (t : List ℕ) (at k words : ℕ) (addresses : List ℕ) : Type 0 where
  pub search : Searching is_bad t at k
  pub counted : words ≡ count_from 0 (take (k - 1) (lines_of t))
  pub known : Addresses t (k - 1) addresses

pub inspect_starts : {t addresses : List ℕ} → length addresses ≡ 256 → Inspecting t 0 1 0 addresses
inspect_starts e =
    record { search = search_starts; counted = unfold count_from in refl; known = record { room = e; held = λ j h l. absurd (omega arith) } }

module _ {t addresses : List ℕ} {at k words : ℕ} (r : Inspecting t at k words addresses) where
  pub inspect_ends : lines_of (drop at t) ≡ [] → Inspected t (Ok words) addresses
  inspect_ends h =
      let none : drop (k - 1) (lines_of t) ≡ [] = r.search.line.rest ∙ h in
      let all : length (lines_of t) ≤ k - 1 = omega (arith, ap length none, length-drop (k - 1) (lines_of t)) in
      record {
        good = sym (search_ends r.search h);
        words = r.counted ∙ ap (count_from 0) (take_all (k - 1) (lines_of t) all);
        known = record { room = r.known.room; held = λ j a b. r.known.held j (omega arith) b };
      }

  module _ {l : List ℕ} {a : ℕ} (n : Turn t at l a) where
    pub inspect_hits : (b : List ℕ) → 0 ≡ size_of l → Inspected t (Err (record { number = k })) b
    inspect_hits b z = (search_hits r.search n (eq-eqb (size_of l) 0 (sym z)), omega (arith, r.search.line.from))

    pub inspect_goes : {m s : ℕ} {b : List ℕ} → s ≡ size_of l → (size_of l ≡ 0 → ⊥) → m ≡ more words s → b ≡ set addresses (k - 1) (words % 256)
        → Inspecting t a (k + 1) m b
    inspect_goes {m} {s} {b} q z o u =
        record {
          search = search_goes r.search n (ne_eqb (size_of l) 0 z);
          counted = rw one (o ∙ counted_more);
          known = record { room = rw u (length-set addresses (k - 1) (words % 256) ∙ r.known.room); held = rw u held_more };
        }
      where
        this : IsLine t k l
        this = this_line r.search.line n

        one : k + 1 - 1 ≡ suc (k - 1)
        one = omega (arith, this.from)

        counted_more : more words s ≡ count_from 0 (take (suc (k - 1)) (lines_of t))
        counted_more =
            sym (count_more (lines_of t) (k - 1) 0 (omega (arith, this.from, this.within)) ∙ rw (this.is, ← q, ← r.counted))

        held_more : (j : ℕ) → j < k + 1 - 1 → j < 256 → get_or (set addresses (k - 1) (words % 256)) j 0 ≡ count_from 0 (take j (lines_of t)) % 256
        held_more j x y =
            by_test (eqb j (k - 1))
            (λ c. let d = eqb-true j (k - 1) c in
            rw d (get_or-set_same addresses (k - 1) (words % 256) 0 (omega (arith, r.known.room)) ∙ ap (λ (w : ℕ). w % 256) r.counted))
            (λ c. let d = eqb-false j (k - 1) c in
            get_or-set_other addresses (k - 1) j (words % 256) 0 d ∙ r.known.held j (omega (arith, d)) y)
