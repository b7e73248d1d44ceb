-- 02 [5]: "so what a teacher was told of an admitted listing remains true at its seat". A seat's turns are a list of runs as 01, 'Lists of runs',
-- has them, and the third demand holds of that list.
-- Assumes nothing.
use Rattle.std.specs.Prelude.{ℕ, ◌-◌, ◌≤◌, ◌≡◌, cond, List, [], ◌∷◌, ◌++◌, eqb, length, drop, Some, None, Ok, Err}
use Rattle.slices.specs.Lists.{mapped}
use Rattle.model.specs.Run.{Outcome, outcome, ran, trace_of}
use Rattle.model.specs.Step.{Machine, machine_at}
use Rattle.rules.specs.Demand.{Bytes, Starts, Holds}
use Rattle.rules.specs.Grounds.{admit_of}
use Rattle.rules.specs.RunLists.{Snapshot, resume, own, ListedRun, run_machine, outcomes}
use Rattle.rules.specs.Sheet.{Listing}
use Rattle.seats.specs.Room.{Room, EightPlaces, Seat, seat_of, machine_in}
use Rattle.seats.specs.Turn.{TurnCall, TurnAnswer, turn_of, ran_seat}

-- what lies between the runs of a seat
abbrev pub snapshot_of : Seat → Snapshot
snapshot_of s = record { state = s.state; ram = s.ram; stack = s.stack }

-- a turn of a seat as a run of a list: it gets the state reached and the list's own banks, with the slice as its budget, the seat's keys, and
-- what is left of the seat's roll as its roll
abbrev pub run_at : Seat → (slice : ℕ) → ListedRun
run_at s slice =
    record {
      start = resume;
      opcodes = own;
      arguments = own;
      ram = own;
      stack = own;
      keys = s.setting.keys;
      budget = slice;
      roll = drop s.roll_position s.roll;
    }

-- seat i's turns of a list of turns, as runs
unfoldable pub runs_at : ℕ → List TurnCall → Room → List ListedRun
runs_at i [] w = []
runs_at i (c ∷ cs) w =
    let rest = runs_at i cs (turn_of c w).room in
    cond (ran_seat i (turn_of c w).answer) (run_at (seat_of w i) c.slice ∷ rest) rest

-- what a turn told and left of seat i, as a run's outcome, if it ran: s is the seat before the turn and t the seat after it. The words are those
-- that the turn added to the roll
abbrev pub told_by : ℕ → TurnAnswer → (s t : Seat) → List Outcome
told_by i (Err r) s t = []
told_by i (Ok None) s t = []
told_by i (Ok (Some x)) s t =
    cond (eqb x.seat i)
    (outcome (ran x.stop x.steps x.cycles (t.roll_position - s.roll_position)) t.state t.ram t.stack (drop s.roll_position t.roll) ∷ []) []

unfoldable pub told_at : ℕ → List TurnCall → Room → List Outcome
told_at i [] w = []
told_at i (c ∷ cs) w =
    told_by i (turn_of c w).answer (seat_of w i) (seat_of (turn_of c w).room i) ++ told_at i cs (turn_of c w).room

-- a machine without the first words of its roll
abbrev pub later : (words : ℕ) → Machine → Machine
later a m =
    machine_at m.core.state m.core.ram m.stack (drop a m.core.roll) (m.core.words - a) m.core.steps m.core.cycles

-- the steps that a tally is fed by such a run are the seat's own, without what stood on its roll before
abbrev pub SameSteps : Type 0
SameSteps =
    (s : Seat) (slice : ℕ) → s.roll_position ≤ length s.roll
    → trace_of s.setting slice (run_machine (run_at s slice) (snapshot_of s)) ≡ mapped (later s.roll_position) (trace_of s.setting slice (machine_in s 0 0))

pub record HoldsAt (L : Listing) (i : ℕ) (cs : List TurnCall) (w : Room) : Type 0 where
  -- the seat's turns are these runs: they told and left what the runs answer and leave
  pub are_runs : outcomes L.program (runs_at i cs w) (snapshot_of (seat_of w i)) ≡ told_at i cs w
  -- THE THIRD DEMAND of this list of runs: every step is tallied and within the need, and no stop is `unsettled`
  pub holds : Holds L (snapshot_of (seat_of w i)) (runs_at i cs w)

-- of every admitted listing whose opcodes and arguments stand at seat i, from a start state on
abbrev pub DemandAtSeats : Type 0
DemandAtSeats =
    (L : Listing) → Bytes L.list → admit_of L ≡ 0 → (i : ℕ) (cs : List TurnCall) (w : Room) → EightPlaces w
    → (seat_of w i).setting.program ≡ L.program → Starts (snapshot_of (seat_of w i)) → HoldsAt L i cs w
