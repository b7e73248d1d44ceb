-- The draft of settled words is a drawing where admission accepts it; where it does not, nothing is admitted.
-- Assumes nothing.
use Prim.Native.Nat.{ℕ, zero, suc, ◌+◌, ◌≤◌, ◌<◌}
use native.Mathlib.Omega.{arith}
use mathlib.Core.Path.{◌≡◌}
use mathlib.Core.List.{List, ◌∷◌}
use lib.ListN.{get_or}
use lib.Dec.{ltb}
use borrow.Author.Tests.{ltb-true, ltb-false}
use Rattle.slices.specs.Lists.{Bytes}
use Rattle.model.specs.Step.{Program}
use Rattle.slices.proofs.Bools.{by_test}
use Rattle.rules.specs.Grounds.{admit_of}
use Rattle.rules.specs.Sheet.{Listing, described}
use Rattle.rules.proofs.AdmittedRules.{blank_past}
use Rattle.drawings.specs.Drawn.{listed, Admitted, Drawn}
use Rattle.drawings.specs.internal.Cells.{seen, need_in, mark_in}
use Rattle.drawings.specs.internal.Drafts.{is_entry, rank, list_from, low_byte, high_byte, sheet_from, sheet_of, list_of, draft_of}
use Rattle.drawings.specs.internal.Visits.{Settled}
use Rattle.drawings.proofs.Keeping.{Kept, kept, accepted}
use Rattle.drawings.proofs.Weights.{bit_two, need_low, depth_low}
use Rattle.drawings.proofs.DraftParts.{sheet_length}
use Rattle.drawings.proofs.Completeness.{draft_kept, few, some, described_reached, reached_described, marks_most, needs_least, ordered}

-- ---- a draft is of bytes

two_bytes : (x y : ℕ) (l : List ℕ) → x < 256 → y < 256 → Bytes l → Bytes (x ∷ y ∷ l)
two_bytes x y l h k r zero = h
two_bytes x y l h k r (suc zero) = k
two_bytes x y l h k r (suc (suc j)) = r j

list_bytes : (ws : List ℕ) (n i : ℕ) → i + n ≤ 256 → Bytes (list_from ws i n)
unfolding list_from
list_bytes ws zero i h j = omega arith
list_bytes ws (suc n) i h j =
    by_test (is_entry ws i)
    (λ e. rw e (two_bytes i (need_in (get_or ws i 0)) (list_from ws (suc i) n) (omega arith) (need_low (get_or ws i 0)) (list_bytes ws n (suc i) (omega arith)) j))
    (λ e. rw e (list_bytes ws n (suc i) (omega arith) j))

low_half : (ws : List ℕ) (a : ℕ) → low_byte ws a < 256
unfolding low_byte
low_half ws a = depth_low (get_or ws a 0)

high_half : (ws : List ℕ) (a : ℕ) → high_byte ws a < 256
unfolding high_byte
high_half ws a = by_test (seen (get_or ws a 0)) (λ e. rw e (let b = bit_two (mark_in (get_or ws a 0)) in omega arith)) (λ e. rw e (omega arith))

sheet_bytes : (ws : List ℕ) (n i : ℕ) → Bytes (sheet_from ws i n)
unfolding sheet_from
sheet_bytes ws zero i j = omega arith
sheet_bytes ws (suc n) i j = two_bytes (low_byte ws i) (high_byte ws i) (sheet_from ws (suc i) n) (low_half ws i) (high_half ws i) (sheet_bytes ws n (suc i)) j

module _ (p : Program) (ws : List ℕ) (settled : Settled p ws) where
  abbrev D : Listing
  D = draft_of p ws

  pub draft_drawn : admit_of D ≡ 0 → Drawn p (sheet_of ws) (list_of ws)
  unfolding draft_of
  draft_drawn e =
      let m : Kept D = kept D e in
      let y : Bytes (list_of ws) = list_bytes ws 256 0 (omega arith) in
      record {
        admitted = record { sheet_bytes = sheet_bytes ws 256 0; list_bytes = y; accepted = e };
        only_reached = described_reached D m y ws settled;
        all_reached = reached_described D m y ws settled;
        others_blank = λ a n.
            by_test (described D a) (λ q. absurd (n (described_reached D m y ws settled a q)))
            (λ q. by_test (ltb a 256) (λ t. m.blank a (ltb-true a 256 t) q) (λ t. blank_past D (sheet_length p ws) a (ltb-false a 256 t)));
        zero_first = m.base.entry_zero;
        by_entry = ordered D m y ws settled;
        least = λ s l h. needs_least (listed p s l) (kept (listed p s l) h.accepted) h.list_bytes ws settled;
        marks = λ s l h a r.
            marks_most (listed p s l) (kept (listed p s l) h.accepted) h.list_bytes ws settled a (reached_described D m y ws settled a r);
      }

  pub none_admitted : (admit_of D ≡ 0 → ⊥) → (s l : List ℕ) → Admitted p s l → ⊥
  none_admitted n s l h = n (accepted D (draft_kept (listed p s l) (kept (listed p s l) h.accepted) h.list_bytes ws settled))

  -- more than 64 routines
  pub too_many : 64 < rank ws 256 → (s l : List ℕ) → Admitted p s l → ⊥
  too_many many s l h = let f = few (listed p s l) (kept (listed p s l) h.accepted) h.list_bytes ws settled in omega arith

  pub no_routines : rank ws 256 ≡ 0 → (s l : List ℕ) → Admitted p s l → ⊥
  no_routines e s l h = let f = some (listed p s l) (kept (listed p s l) h.accepted) h.list_bytes ws settled in omega arith
