-- What the stages give one another, and what they answer together: `admit_of`, of which the two demands hold.
-- Assumes nothing.
use Prim.Native.Nat.{ℕ, ◌%◌, ◌≤◌}
use native.Mathlib.Omega.{arith}
use mathlib.Core.Path.{◌≡◌, sym, ap, ap₂, ◌∙◌}
use mathlib.Core.List.{List, [], ◌∷◌, ◌++◌}
use mathlib.Core.Bool.{not, cond}
use lib.ListN.{length}
use lib.Dec.{eqb}
use borrow.Author.Tests.{ltb-false}
use Rattle.slices.specs.Lists.{Bytes}
use Rattle.slices.proofs.Bools.{neither}
use Rattle.slices.proofs.Checks.{Numbered, none_broken}
use Rattle.slices.specs.Checks.{Check, check, first_broken}
use Rattle.slices.specs.Sizes.{bank_size}
use Rattle.rules.specs.Grounds.{each, bad_banks, bad_sheet, bad_list, bad_blank, bad_routine, bad_start, bad_entry, checks_by, admit_by, admit_of}
use Rattle.rules.specs.Sheet.{Listing, routines, entry}
use Rattle.rules.specs.internal.Scans.{or_else}
use Rattle.rules.proofs.AdmittedRules.{numbered_address, one}
use Rattle.rules.proofs.Answers.{first_demand}
use Rattle.rules.proofs.CheckLists.{numbered_each}
use Rattle.rules.proofs.SettlesMore.{remains}
use Rattle.rules.proofs.Scanning.{first_append, scan_each, scan_clear}
use Rattle.rules.proofs.ThirdDemand.{demand}
use Rattle.admission.specs.Admission.{Admission}
use Rattle.addresses.specs.internal.Parts.{EntriesFit}
use Rattle.admission.specs.internal.Stages.{Stage, Blanks, Routines, Entries, Addresses, stage_checks, stage_places, StageReady, stage_of, sizes_of, start_of, scans_of, stages_of}

-- places are bytes
pub few_places : (s : Stage) (L : Listing) → StageReady s L → stage_places s (routines L) ≤ bank_size
few_places Blanks L ready = omega arith
few_places Routines L ready = omega arith
few_places Entries L ready = ready
few_places Addresses L ready = omega arith

module _ (L : Listing) where
  abbrev size_checks : List Check
  size_checks = check 1 0 (bad_banks L) ∷ check 2 0 (bad_sheet L) ∷ check 3 0 (bad_list L) ∷ []

  numbered_sizes : Numbered size_checks
  numbered_sizes = (omega arith, (omega arith, (omega arith, tt)))

  pub few_routines : sizes_of L ≡ 0 → routines L ≤ bank_size
  unfolding routines
  few_routines e =
      let n = none_broken size_checks numbered_sizes e in
      let odd = neither (eqb (length L.list % 2) 1) _ n.1.1.0 in
      let short = ltb-false _ (length L.list) (neither (eqb (length L.list) 0) _ odd.1).1 in
      omega (arith, short)

  -- the test of 6, where n was read as routine 0's entry
  pub start_tested : (n : ℕ) → n ≡ entry L 0 → cond (not (eqb n 0)) 6 0 ≡ start_of L
  unfolding first_broken
  start_tested n e = rw e

  numbered_stage : (s : Stage) (k : ℕ) → Numbered (stage_checks s L k)
  numbered_stage Blanks = one L 4 (bad_blank L) (omega arith)
  numbered_stage Routines = one L 5 (bad_routine L) (omega arith)
  numbered_stage Entries = one L 7 (bad_entry L) (omega arith)
  numbered_stage Addresses = numbered_address L

  pub entries_fit : stage_of Entries L ≡ 0 → EntriesFit L
  entries_fit e r h = (scan_clear (stage_checks Entries L) (numbered_stage Entries) (routines L) e r h).0

  -- ---- the stages are the list of all checks

  abbrev each_of : Stage → List Check
  each_of s = each (stage_checks s L) 0 (stage_places s (routines L))

  stage_each : (s : Stage) → stage_of s L ≡ first_broken (each_of s)
  stage_each s = scan_each (stage_checks s L) (numbered_stage s) 0 (stage_places s (routines L))

  -- a stage, and what comes after it
  stage_then : (s : Stage) {n : ℕ} (cs : List Check) → n ≡ first_broken cs → or_else (stage_of s L) n ≡ first_broken (each_of s ++ cs)
  stage_then s cs e =
      ap₂ or_else (stage_each s) e ∙ first_append (each_of s) cs (numbered_each (stage_checks s L) (numbered_stage s) 0 (stage_places s (routines L)))

  stages_agree : stages_of L ≡ admit_of L
  unfolding stages_of scans_of admit_by checks_by
  stages_agree =
      let e7 = stage_then Entries _ (stage_each Addresses) in
      let e6 = ap (or_else (start_of L)) e7 ∙ first_append (check 6 0 (bad_start L) ∷ []) _ (omega arith, tt) in
      let e4 = stage_then Blanks _ (stage_then Routines _ e6) in
      ap (or_else (sizes_of L)) e4 ∙ first_append size_checks _ numbered_sizes

  pub admission : Bytes L.list → (answer : ℕ) → answer ≡ stages_of L → Admission L answer
  admission bytes answer e =
      let q = e ∙ stages_agree in
      record { answers = q; first = rw q (first_demand L); third = λ z. demand L bytes (sym q ∙ z); remains = remains L answer q }
