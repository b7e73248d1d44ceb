-- THE THIRD DEMAND, whole: one claim about every list of runs of an admitted program, whatever data, old stack contents, keys and register
-- bytes: only described addresses execute, the entries stay within the stated need, SP never wraps, pops and swaps meet their own routine's
-- bytes, returns go home, no stop is `unsettled`, and old stack contents never show in an answer.
-- Assumes nothing.
use Rattle.std.specs.Prelude.{ℕ, ◌≡◌, Bool, List, [], length}
use Rattle.model.specs.State.{start_with}
use Rattle.rules.specs.Demand.{Tallied, NoneUnsettled, TraceIs, AllAgree}
use Rattle.rules.specs.RunLists.{Snapshot, ListedRun, outcomes, events}
use Rattle.rules.specs.Sheet.{Listing}
use Rattle.model.specs.Step.{Setting, Machine}

-- "the list starts from a start state, with .. any data and stack bytes", and any registers, Z, C and S
abbrev pub begins : (regs : List ℕ) → (z c s : Bool) → (ram stack : List ℕ) → Snapshot
begins regs z c s ram stack = record { state = start_with regs z c s; ram = ram; stack = stack }

pub record ThirdOfList (L : Listing) (regs : List ℕ) (z c s : Bool) (ram stack : List ℕ) (rs : List ListedRun) : Type 0 where
  -- every step fed to the tally is as `StepHolds` says: described address, last entry, need, SP
  pub tallied : Tallied L [] (events L.program rs (begins regs z c s ram stack))
  pub none_unsettled : NoneUnsettled (outcomes L.program rs (begins regs z c s ram stack))
  -- the steps are those of the second demand, and as many as the run reports
  pub traces : (x : Setting) (n : ℕ) (m : Machine) → TraceIs x n m
  -- "Two lists alike in all but the stack's 256 bytes at the beginning have equal answers at each run"
  pub old_stack_hidden : (stack' : List ℕ) → length stack' ≡ 256
      → AllAgree L [] rs (begins regs z c s ram stack) (begins regs z c s ram stack')

abbrev pub ThirdDemand : Listing → ℕ → Type 0
ThirdDemand L answer =
    answer ≡ 0 → (regs : List ℕ) (z c s : Bool) (ram stack : List ℕ) → length stack ≡ 256 → (rs : List ListedRun)
    → ThirdOfList L regs z c s ram stack rs
