-- What admission promises of a listing and its answer: the first demand, and the third where the answer is 0.
-- Assumes nothing.
use Rattle.std.specs.Prelude.{ℕ, ◌≡◌, List}
use Rattle.rules.specs.Demand.{Starts, Holds}
use Rattle.rules.specs.FirstDemand.{FirstDemand}
use Rattle.rules.specs.Former.{Remains}
use Rattle.rules.specs.Grounds.{admit_of}
use Rattle.rules.specs.RunLists.{Snapshot, ListedRun}
use Rattle.rules.specs.Sheet.{Listing}

pub record Admission (L : Listing) (answer : ℕ) : Type 0 where
  -- "Admission answers 0, or number + 256 × place"
  pub answers : answer ≡ admit_of L
  -- 0 exactly if every rule is kept, else the first broken rule with its place
  pub first : FirstDemand L answer
  -- 0: every list of runs from every start is safe
  pub third : answer ≡ 0 → (w : Snapshot) → Starts w → (rs : List ListedRun) → Holds L w rs
  -- 02, [4]: "Listings admitted so far remain admitted"
  pub remains : Remains L answer
