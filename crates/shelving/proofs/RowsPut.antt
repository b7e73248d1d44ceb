-- Numbers written one behind another: what is left, written from here, leaves the page of the whole.
-- Assumes nothing.
use Prim.Native.Nat.{ℕ, suc, ◌+◌, ◌-◌, ◌≤◌, ◌<◌}
use native.Mathlib.Omega.{arith}
use native.Mathlib.Numerals.{add-one}
use mathlib.Core.Path.{◌≡◌, refl, sym, ap, ◌∙◌}
use mathlib.Core.List.{List, [], ◌∷◌}
use lib.ListN.{length, get_or, drop, drop_of_length-le}
use lib.Seq.{drop-cons}
use Rattle.groups.specs.Groups.{groups_of, row_of}
use Rattle.groups.proofs.Fields.{row_append}
use Rattle.pages.specs.Page.{Page, write_of}
use Rattle.pages.proofs.Pages.{write_append}
use Rattle.rules.specs.Sheet.{Listing}
use Rattle.files.specs.File.{address_numbers}

pub row_one : (x : ℕ) (xs : List ℕ) (p : Page) → write_of (row_of (x ∷ xs)) p ≡ write_of (row_of xs) (write_of (groups_of x) p)
unfolding row_of
row_one x xs p = write_append (groups_of x) (row_of xs) p

row_none : (p : Page) → write_of (row_of []) p ≡ p
unfolding row_of write_of
row_none p = refl

pub three_put : (x y z : ℕ) (p : Page) {q r s : Page} → q ≡ write_of (groups_of x) p → r ≡ write_of (groups_of y) q → s ≡ write_of (groups_of z) r
    → s ≡ write_of (row_of (x ∷ y ∷ z ∷ [])) p
three_put x y z p a b c =
    c ∙ ap (write_of (groups_of z)) (b ∙ ap (write_of (groups_of y)) a)
    ∙ sym (row_one x (y ∷ z ∷ []) p ∙ row_one y (z ∷ []) (write_of (groups_of x) p) ∙ row_one z [] _ ∙ row_none _)

-- the numbers of the addresses below a are written on p₀, and p is what they left
pub record PutTo (L : Listing) (n : ℕ) (p₀ : Page) (a : ℕ) (p : Page) : Type 0 where
  pub within : a ≤ n
  pub room : length p.bytes ≡ length p₀.bytes
  pub left : write_of (row_of (address_numbers L a (n - a))) p ≡ write_of (row_of (address_numbers L 0 n)) p₀

one_more : (L : Listing) (a k m b : ℕ) (p : Page) → k ≡ suc m → b ≡ suc a
    → write_of (row_of (address_numbers L a k)) p ≡ write_of (row_of (address_numbers L b m)) (write_of (row_of (address_numbers L a 1)) p)
unfolding address_numbers
one_more L a k m b p e f =
    rw (e, f)
    (ap (λ (xs : List ℕ). write_of xs p) (row_append (address_numbers L a 1) (address_numbers L (suc a) m)) ∙ write_append (row_of (address_numbers L a 1)) (row_of (address_numbers L (suc a) m)) p)

pub to_goes : {L : Listing} {n a : ℕ} {p₀ p q : Page} → PutTo L n p₀ a p → a < n → q ≡ write_of (row_of (address_numbers L a 1)) p → length q.bytes ≡ length p.bytes
    → PutTo L n p₀ (a + 1) q
to_goes {L} {n} {a} {p₀} {p} {q} t l e r =
    record {
      within = omega arith;
      room = r ∙ t.room;
      left = ap (write_of (row_of (address_numbers L (a + 1) (n - (a + 1))))) e ∙ sym (one_more L a (n - a) (n - (a + 1)) (a + 1) p (omega arith) (add-one a)) ∙ t.left;
    }

no_more : (L : Listing) (a k : ℕ) (p : Page) → k ≡ 0 → write_of (row_of (address_numbers L a k)) p ≡ p
unfolding address_numbers
no_more L a k p e = rw e (row_none p)

pub to_ends : {L : Listing} {n a : ℕ} {p₀ p : Page} → PutTo L n p₀ a p → n ≤ a → p ≡ write_of (row_of (address_numbers L 0 n)) p₀
to_ends {L} {n} {a} {p₀} {p} t l = sym (no_more L a (n - a) p (omega arith)) ∙ t.left

-- i of the bytes are written on p₀, and p is what they left
pub record PutBytes (bytes : List ℕ) (p₀ : Page) (i : ℕ) (p : Page) : Type 0 where
  pub room : length p.bytes ≡ length p₀.bytes
  pub left : write_of (row_of (drop i bytes)) p ≡ write_of (row_of bytes) p₀

pub bytes_go : {bytes : List ℕ} {i : ℕ} {p₀ p q : Page} → PutBytes bytes p₀ i p → i < length bytes → q ≡ write_of (groups_of (get_or bytes i 0)) p
    → length q.bytes ≡ length p.bytes → PutBytes bytes p₀ (i + 1) q
bytes_go {bytes} {i} {p₀} {p} {q} t l e r =
    record {
      room = r ∙ t.room;
      left = rw (add-one i) (ap (write_of (row_of (drop (suc i) bytes))) e ∙ sym (row_one (get_or bytes i 0) (drop (suc i) bytes) p) ∙ ap (λ (xs : List ℕ). write_of (row_of xs) p) (sym (drop-cons bytes i 0 l)) ∙ t.left);
    }

pub bytes_put : {bytes : List ℕ} {i : ℕ} {p₀ p : Page} → PutBytes bytes p₀ i p → length bytes ≤ i → p ≡ write_of (row_of bytes) p₀
bytes_put {bytes} {i} {p₀} {p} t l = sym (ap (λ (xs : List ℕ). write_of (row_of xs) p) (drop_of_length-le bytes l) ∙ row_none p) ∙ t.left
