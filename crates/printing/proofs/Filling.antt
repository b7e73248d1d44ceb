-- The loop that fills a spelling: what is left of it, filled and written from here, leaves the page of the whole.
-- Assumes nothing.
use Prim.Native.Nat.{ℕ, suc, ◌+◌, ◌≤◌}
use native.Mathlib.Omega.{arith}
use native.Mathlib.Numerals.{add-one}
use mathlib.Core.Path.{◌≡◌, refl, sym, ap, ◌∙◌}
use lib.ListN.{length, get_or, drop, drop_of_length-le}
use lib.Seq.{drop-cons}
use Rattle.pages.specs.Page.{Page, write_of}
use Rattle.pages.proofs.Pages.{write_append}
use Rattle.numbers.specs.declared.Fields.{Fields}
use Rattle.spelling.specs.Spellings.{pattern_of}
use Rattle.spelling.proofs.Rows.{short, no_dots, dot_ends, not_dot}
use Rattle.printing.specs.Print.{shown_at, filled}

-- j bytes of the spelling in row k have been filled on p₀, and p is what they left
pub record Filling (k : ℕ) (x : Fields) (p₀ : Page) (j : ℕ) (p : Page) : Type 0 where
  pub room : length p.bytes ≡ length p₀.bytes
  pub left : write_of (filled (drop j (pattern_of k)) x) p ≡ write_of (filled (pattern_of k) x) p₀

module _ {k : ℕ} {x : Fields} where
  pub fill_starts : {p : Page} → Filling k x p 0 p
  fill_starts = record { room = refl; left = refl }

  pub fill_goes : {p₀ p q : Page} {j c : ℕ} → Filling k x p₀ j p → c ≡ get_or (pattern_of k) j 46 → (c ≡ 46 → ⊥)
      → q ≡ write_of (shown_at x c) p → length q.bytes ≡ length p.bytes → Filling k x p₀ (j + 1) q
  fill_goes {p₀} {p} {q} {j} {c} f e h w r =
      record { room = r ∙ f.room; left = rw (add-one j) (ap (write_of (filled (drop (suc j) (pattern_of k)) x)) w ∙ sym first ∙ f.left) }
    where
      first : write_of (filled (drop j (pattern_of k)) x) p ≡ write_of (filled (drop (suc j) (pattern_of k)) x) (write_of (shown_at x c) p)
      first = rw (drop-cons (pattern_of k) j 46 (not_dot k j c e h), ← e) (unfold filled in write_append (shown_at x c) _ p)

  fill_ends : {p₀ p : Page} {j : ℕ} → Filling k x p₀ j p → length (pattern_of k) ≤ j → p ≡ write_of (filled (pattern_of k) x) p₀
  fill_ends {p = p} f l = sym (rw (drop_of_length-le (pattern_of k) l) (unfold filled write_of in refl)) ∙ f.left

  pub fill_dot : {p₀ p : Page} {j c : ℕ} → Filling k x p₀ j p → c ≡ get_or (pattern_of k) j 46 → c ≡ 46 → p ≡ write_of (filled (pattern_of k) x) p₀
  fill_dot {j = j} f e d = fill_ends f (dot_ends (pattern_of k) j (no_dots k) (sym e ∙ d))

  pub fill_full : {p₀ p : Page} {j : ℕ} → Filling k x p₀ j p → 16 ≤ j → p ≡ write_of (filled (pattern_of k) x) p₀
  fill_full f l = fill_ends f (omega (arith, short k))
