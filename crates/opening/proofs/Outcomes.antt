-- From the sizes, the judgement and the filled buffers to the opener's outcome.
-- Assumes nothing.
use Prim.Native.Nat.{ℕ, ◌*◌, ◌-◌}
use native.Mathlib.Omega.{arith}
use mathlib.Core.Path.{◌≡◌, sym, ap, ◌∙◌}
use mathlib.Core.List.{List, []}
use lib.ListN.{length, drop, length-drop}
use lib.Dec.{eqb}
use borrow.Author.Tests.{eqb-true, ne_eqb, not-false}
use Rattle.std.specs.Prelude.{Ok, Err}
use Rattle.slices.specs.Checks.{first_broken}
use Rattle.slices.specs.Parts.{padded}
use Rattle.slices.proofs.Bools.{both}
use Rattle.slices.proofs.Checks.{none_broken}
use Rattle.groups.proofs.Fields.{row_fits}
use Rattle.rules.specs.Grounds.{buffer_checks, max_list_size}
use Rattle.rules.specs.Sheet.{Listing, listing, routines}
use Rattle.files.specs.Calls.{open_fault, outcome, opened_to, delivered, opened_of}
use Rattle.files.specs.File.{byte_fields, listing_of, listing_in}
use Rattle.files.proofs.Numbers.{list_length}
use Rattle.files.proofs.Promised.{numbered_open}
use Rattle.checking.specs.internal.Judges.{Passed, Stopped}
use Rattle.opening.specs.internal.Fills.{FillsAddresses, FillsBytes}

-- the lengths of the four buffers
pub record BufferSizes (B : Listing) : Type 0 where
  pub opcodes : length B.program.opcodes ≡ 256
  pub arguments : length B.program.arguments ≡ 256
  pub sheet : length B.sheet ≡ 512
  pub list : length B.list ≡ 128

pub sized : (B : Listing) {q : ℕ} → q ≡ first_broken (buffer_checks B) → q ≡ 0 → BufferSizes B
sized B e z =
    let p = none_broken (buffer_checks B) (numbered_open B) (sym e ∙ z) in
    let t = both (eqb (length B.program.opcodes) 256) (eqb (length B.program.arguments) 256) (not-false _ p.0) in
    record {
      opcodes = eqb-true _ _ t.0;
      arguments = eqb-true _ _ t.1;
      sheet = eqb-true _ _ (not-false _ p.1.0);
      list = eqb-true _ _ (not-false _ p.1.1.0);
    }

module _ (file : List ℕ) (B : Listing) {q : ℕ} (e : q ≡ first_broken (buffer_checks B)) where
  pub refuse_sizes : (q ≡ 0 → ⊥) → outcome (Err (q, 0)) B ≡ opened_of file B
  unfolding opened_of open_fault
  refuse_sizes n = rw (← e, ne_eqb q 0 n)

  module _ (z : q ≡ 0) where
    read_it : opened_of file B ≡ delivered file (listing_in file) B
    unfolding opened_of open_fault
    read_it = rw (← e, z)

    pub refuse_file : {r p : ℕ} → Stopped file r p → outcome (Err (r, p)) B ≡ opened_of file B
    unfolding delivered
    refuse_file {r} {p} s =
        let l = length-drop p file in
        let w = s.within in
        let place : p ≡ length file - length (drop p file) = omega arith in
        ap (λ (i : ℕ). outcome (Err (r, i)) B) place ∙ sym (read_it ∙ rw s.stops)

    pub opened_whole : {n addresses k list : ℕ} (o g s l : List ℕ) → Passed file n addresses k list → FillsAddresses file addresses n o g s → FillsBytes file list (2 * k) l
        → outcome (Ok k) (listing o g s l) ≡ opened_of file B
    unfolding delivered
    opened_whole {n} {addresses} {k} {list} o g s l p fills bytes =
        whole o g s l p.numbers p.bytes k (fills p.numbers p.behind p.numbers_at p.bytes) size (bytes p.bytes [] p.bytes_at)
        ∙ sym (read_it ∙ rw p.opens_to)
      where
        size : length p.bytes ≡ 2 * k
        size = list_length (2 * k) p.bytes (row_fits (byte_fields (2 * k)) (drop list file) p.bytes_at)

        count : (o g s rs : List ℕ) (k : ℕ) → length rs ≡ 2 * k → k ≡ routines (listing o g s rs)
        count o g s rs k n = unfold routines in (omega arith)

        whole : (o g s l xs rs : List ℕ) (k : ℕ) → listing o g s rs ≡ listing_of xs rs → length rs ≡ 2 * k → l ≡ padded max_list_size rs
            → outcome (Ok k) (listing o g s l) ≡ opened_to (listing_of xs rs)
        whole o g s l xs rs k e n q =
            ap (λ (x : List ℕ). outcome (Ok k) (listing o g s x)) q
            ∙ ap (λ (x : ℕ). outcome (Ok x) (listing o g s (padded max_list_size rs))) (count o g s rs k n)
            ∙ ap opened_to e
