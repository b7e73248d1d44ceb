-- An admitted listing's run on the desk is halted or spent. It is not refused: admission asked for banks of 256 bytes. It isn't unsettled, by the
-- third demand for the list of this one run. And the roll is never full, having a word for each step of the budget.
-- Assumes nothing.
use Prim.Native.Nat.{◌≤◌}
use native.Mathlib.Omega.{arith}
use mathlib.Core.Path.{◌≡◌, refl}
use mathlib.Core.Bool.{true}
use mathlib.Core.List.{List, [], ◌∷◌}
use lib.Dec.{eqb}
use lib.ListN.{length, replicate}
use borrow.Author.Tests.{not-false}
use Rattle.model.proofs.NeverFull.{never_full}
use Rattle.std.specs.Prelude.{Ok}
use Rattle.model.specs.Run.{machine_of, refusal_of, call_of}
use Rattle.model.specs.State.{start_state}
use Rattle.model.specs.declared.Stop.{Stop}
use Rattle.model.specs.declared.Stop.TheVariants.{Halted, Spent, Unsettled, Full}
use Rattle.rules.specs.Demand.{Starts, Holds}
use Rattle.rules.specs.Grounds.{checks_by, admit_by, checks, admit_of}
use Rattle.rules.specs.RunLists.{Snapshot, resume, own, ListedRun, outcome_of, outcomes}
use Rattle.rules.specs.Sheet.{Listing}
use Rattle.rules.proofs.AdmittedRules.{numbered_checks}
use Rattle.slices.proofs.Bools.{both}
use Rattle.slices.proofs.Checks.{none_broken}
use Rattle.slices.specs.Sizes.{bank_size}
use Rattle.report.specs.Answered.{DeskStop, RunEnds}
use Rattle.report.specs.Desk.{roll_size, budget, desk_call, ran_of}

-- the desk's snapshot and run, as a list of one
abbrev desk_snapshot : Snapshot
desk_snapshot = record { state = start_state; ram = replicate bank_size 0; stack = replicate bank_size 0 }

abbrev desk_run : ListedRun
desk_run = record { start = resume; opcodes = own; arguments = own; ram = own; stack = own; keys = []; budget = budget; roll = replicate roll_size 0 }

starts : Starts desk_snapshot
starts = record { regs = _; z = _; c = _; s = _; state = refl; stack_long = refl }

two_left : (y : Stop) → (y ≡ Unsettled → ⊥) → (y ≡ Full → ⊥) → DeskStop y
two_left Halted u f = tt
two_left Spent u f = tt
two_left Unsettled u f = u refl
two_left Full u f = f refl

module _ (L : Listing) where
  good_banks : admit_of L ≡ 0 → (eqb (length L.program.opcodes) bank_size ≡ true) × (eqb (length L.program.arguments) bank_size ≡ true)
  unfolding admit_by checks_by
  good_banks e = both _ _ (not-false _ (none_broken (checks L) (numbered_checks L) e).0)

  passes : admit_of L ≡ 0 → refusal_of (desk_call L.program.opcodes L.program.arguments start_state) ≡ Ok tt
  unfolding refusal_of
  passes e = let b = good_banks e in rw (b.0, b.1)

  pub run_ends : (admit_of L ≡ 0 → (w : Snapshot) → Starts w → (rs : List ListedRun) → Holds L w rs) → RunEnds L
  unfolding ran_of call_of outcomes outcome_of
  run_ends third e =
      let p = passes e in
      let u = (third e desk_snapshot starts (desk_run ∷ [])).none_unsettled.0 in
      let room : budget ≤ roll_size = omega arith in
      rw p
      (two_left _ (rw p at u)
      (never_full _ budget (machine_of (desk_call L.program.opcodes L.program.arguments start_state)) room))
