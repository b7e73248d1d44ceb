-- From the numbers written to the file, and the writer's answers.
-- Assumes nothing.
use Prim.Native.Nat.{ℕ, ◌/◌, ◌≤◌, ◌<◌}
use native.Mathlib.Omega.{arith}
use mathlib.Core.Path.{◌≡◌, sym, ap, ◌∙◌}
use mathlib.Core.List.{List, [], ◌∷◌, ◌++◌}
use lib.Dec.{ltb}
use lib.ListN.{length, drop}
use borrow.Author.Tests.{lt-ltb, ne_eqb}
use Rattle.std.specs.Prelude.{Ok, Err}
use Rattle.slices.specs.Checks.{Check, check, first_broken, NoneBroken}
use Rattle.slices.proofs.Checks.{Numbered, none_broken}
use Rattle.groups.specs.Groups.{groups_of, row_of}
use Rattle.groups.proofs.Fields.{row_append}
use Rattle.pages.specs.Page.{Page, page, write_of}
use Rattle.pages.proofs.Pages.{write_append, write_whole}
use Rattle.rules.specs.Grounds.{listing_checks}
use Rattle.rules.specs.Sheet.{Listing, routines}
use Rattle.rules.proofs.Scanning.{or_hit, or_pass, first_append}
use Rattle.files.specs.Calls.{file_room, write_fault, written, stored, shelved_of}
use Rattle.files.specs.File.{least_of, address_numbers, numbers_of, file_of}
use Rattle.files.specs.Promise.{Passes}
use Rattle.files.proofs.Promised.{nothing_wrong}
use Rattle.files.proofs.Short.{file_short}
use Rattle.files.proofs.Sizes.{good_sizes}
use Rattle.shelving.proofs.RowsPut.{row_one}

pub file_put : (L : Listing) (n : ℕ) (p : Page) {q r t u : Page} → n ≡ least_of L → q ≡ write_of (groups_of n) p → r ≡ write_of (row_of (address_numbers L 0 n)) q
    → t ≡ write_of (groups_of (length L.list / 2)) r → u ≡ write_of (row_of L.list) t → u ≡ write_of (file_of L) p
unfolding file_of row_of routines
file_put L n p {q} {r} {t} {u} least a b c d =
    let xs = address_numbers L 0 n in
    let k = length L.list / 2 in
    let after_n : r ≡ write_of (row_of xs) (write_of (groups_of n) p) = b ∙ ap (write_of (row_of xs)) a in
    let after_k : u ≡ write_of (row_of (k ∷ L.list)) r = d ∙ ap (write_of (row_of L.list)) c ∙ sym (row_one k L.list r) in
    after_k
    ∙ ap (write_of (row_of (k ∷ L.list))) after_n
    ∙ sym (write_append (row_of xs) (row_of (k ∷ L.list)) (write_of (groups_of n) p))
    ∙ ap (λ (bs : List ℕ). write_of bs (write_of (groups_of n) p)) (sym (row_append xs (k ∷ L.list)))
    ∙ sym (row_one n (xs ++ (k ∷ L.list)) p)
    ∙ ap (λ (m : ℕ). write_of (row_of (numbers_of L m)) p) least

pub file_stored : (L : Listing) (before after : List ℕ) (n : ℕ) → Passes L → file_room ≤ length before → page after n ≡ write_of (file_of L) (page before 0)
    → written (Ok n) after ≡ stored (file_of L) before
unfolding stored
file_stored L before after n ok room e =
    let short = file_short L ok in
    let q : page after n ≡ page (file_of L ++ drop (length (file_of L)) before) (length (file_of L)) = e ∙ write_whole (file_of L) before (omega arith) in
    ap (λ (p : Page). written (Ok p.at) p.bytes) q

-- ---- the writer's answers

module _ (L : Listing) (out : List ℕ) where
  numbered_sizes : Numbered (listing_checks L)
  numbered_sizes = (omega arith, (omega arith, (omega arith, tt)))

  -- the room, judged behind the sizes
  abbrev room : List Check
  room = check 32 0 (ltb (length out) file_room) ∷ []

  faulty : {q : ℕ} → q ≡ write_fault L out → (q ≡ 0 → ⊥) → written (Err q) out ≡ shelved_of L out
  unfolding shelved_of
  faulty {q} e n = rw (← e, ne_eqb q 0 n)

  pub refuse_sizes : {q : ℕ} → q ≡ first_broken (listing_checks L) → (q ≡ 0 → ⊥) → written (Err q) out ≡ shelved_of L out
  unfolding write_fault
  refuse_sizes e n = faulty (or_hit _ e n ∙ first_append (listing_checks L) room numbered_sizes) n

  pub refuse_room : {q : ℕ} → q ≡ first_broken (listing_checks L) → q ≡ 0 → length out < file_room → written (Err 32) out ≡ shelved_of L out
  unfolding write_fault first_broken
  refuse_room e z h =
      let short : 32 ≡ first_broken room = rw (lt-ltb (length out) file_room h) in
      faulty (or_pass e z short ∙ first_append (listing_checks L) room numbered_sizes) (λ x. omega arith)

  pub sized : {q : ℕ} → q ≡ first_broken (listing_checks L) → q ≡ 0 → NoneBroken (listing_checks L)
  sized e z = none_broken (listing_checks L) numbered_sizes (sym e ∙ z)

  pub shelved_whole : Passes L → file_room ≤ length out → (after : List ℕ) (n : ℕ) → page after n ≡ write_of (file_of L) (page out 0)
      → written (Ok n) after ≡ shelved_of L out
  unfolding shelved_of
  shelved_whole ok room after n e = rw (nothing_wrong L ok out room) (file_stored L out after n ok room e)

pub few_routines : (L : Listing) → NoneBroken (listing_checks L) → length L.list / 2 ≤ 64
few_routines L p = let s = good_sizes L p in omega (arith, s.list, s.few)
