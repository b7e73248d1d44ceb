-- Admission as the code computes it: the stages one after another, each a scan. It is `admit_of` (proofs/Answer.antt).
-- Assumes nothing.
use Rattle.std.specs.Prelude.{ℕ, ◌≡◌, ◌<◌, ◌≤◌, List, [], ◌∷◌, Result}
use Rattle.rules.specs.Grounds.{bad_banks, bad_sheet, bad_list, bad_blank, bad_routine, bad_start, bad_entry, address_checks}
use Rattle.rules.specs.Sheet.{Listing, routines}
use Rattle.rules.specs.internal.Scans.{or_else, scan_of}
use Rattle.sheets.specs.declared.grounds.Ground.{Ground}
use Rattle.sheets.specs.Grounds.{answer_of}
use Rattle.slices.specs.Checks.{Check, check, first_broken}
use Rattle.slices.specs.Sizes.{bank_size}
use Rattle.addresses.specs.internal.Parts.{EntriesFit}

-- the rules that are judged at one place after another: 4, 5, 7, and 8 to 16
pub data Stage : Type 0 where
  Blanks : Stage
  Routines : Stage
  Entries : Stage
  Addresses : Stage

-- what judges n places by checks answers at each the first that is broken there
abbrev pub Judges : (ℕ → Result Unit Ground → Type 0) → (ℕ → List Check) → ℕ → Type 0
Judges post f n = (k : ℕ) (r : Result Unit Ground) → k < n → post k r → answer_of r ≡ first_broken (f k)

-- the rules that a stage judges at a place
abbrev pub stage_checks : Stage → Listing → ℕ → List Check
stage_checks Blanks L a = check 4 a (bad_blank L a) ∷ []
stage_checks Routines L a = check 5 a (bad_routine L a) ∷ []
stage_checks Entries L r = check 7 r (bad_entry L r) ∷ []
stage_checks Addresses L a = address_checks L a

-- how many places it has, where so many routines are listed
abbrev pub stage_places : Stage → ℕ → ℕ
stage_places Blanks n = bank_size
stage_places Routines n = bank_size
stage_places Entries n = n
stage_places Addresses n = bank_size

-- what the stages before it have shown, as far as it needs that: a routine's number is a byte (3); 7 holds
abbrev pub StageReady : Stage → Listing → Type 0
StageReady Blanks L = Unit {0}
StageReady Routines L = Unit {0}
StageReady Entries L = routines L ≤ bank_size
StageReady Addresses L = EntriesFit L

-- the first rule of a stage that is broken, at the lowest place
abbrev pub stage_of : Stage → Listing → ℕ
stage_of s L = scan_of (stage_checks s L) 0 (stage_places s (routines L))

-- 1 to 3
abbrev pub sizes_of : Listing → ℕ
sizes_of L = first_broken (check 1 0 (bad_banks L) ∷ check 2 0 (bad_sheet L) ∷ check 3 0 (bad_list L) ∷ [])

-- 6
abbrev pub start_of : Listing → ℕ
start_of L = first_broken (check 6 0 (bad_start L) ∷ [])

-- 4 to 16
unfoldable pub scans_of : Listing → ℕ
scans_of L =
    or_else (stage_of Blanks L)
    (or_else (stage_of Routines L) (or_else (start_of L) (or_else (stage_of Entries L) (stage_of Addresses L))))

-- 1 to 16
unfoldable pub stages_of : Listing → ℕ
stages_of L = or_else (sizes_of L) (scans_of L)
