-- A seat's turns are a list of runs: a turn's slice is a run on what is left of the seat's roll, and the seat's next turn goes on from what it
-- left. So the third demand holds of them.
-- Assumes nothing.
use mathlib.Core.Path.{◌≡◌, refl, sym, ap, subst, ◌∙◌}
use mathlib.Core.Bool.{true, false, cond}
use mathlib.Core.List.{List, [], ◌∷◌}
use Prim.Native.Nat.{ℕ, ◌-◌, ◌≤◌}
use native.Mathlib.Nat.{sub_self, le_refl}
use native.Mathlib.Omega.{arith}
use lib.Dec.{eqb, ltb}
use lib.ListN.{length, get_or, drop}
use borrow.Author.Tests.{eqb-true, eq-eqb, ltb-false, le-ltb}
use Rattle.slices.specs.Checks.{NoneBroken}
use Rattle.slices.specs.Sizes.{bank_size, bad_bank}
use Rattle.slices.proofs.Bools.{by_test, neither}
use Rattle.slices.proofs.Parts.{length_part}
use Rattle.model.specs.Run.{Ended, Call, Outcome, outcome, ran, reported, run_of, trace_of, max_budget, run_checks}
use Rattle.model.specs.State.{start_state}
use Rattle.model.specs.Step.{Program, Setting, Machine}
use Rattle.model.proofs.Promises.{checks_pass, passed_call}
use Rattle.rules.specs.RunLists.{Snapshot, call_in, outcome_of, left_by, run_machine, outcomes}
use Rattle.rules.proofs.ThirdDemand.{demand}
use Rattle.seats.specs.AtSeat.{snapshot_of, run_at, runs_at, told_by, told_at, later, SameSteps, DemandAtSeats}
use Rattle.seats.specs.Room.{Room, EightPlaces, bank_at, begin_of, length_at, share_of, Seat, seat_of, machine_in, alone_of}
use Rattle.seats.specs.Turn.{TurnCall, TurnOutcome, ran_of, bad_position, turn_of, ran_seat}
use Rattle.seats.proofs.AloneRuns.{alone_none, ran_same, turn_kept}
use Rattle.seats.proofs.RestOfRoll.{Within, run_later, trace_later}
use Rattle.seats.proofs.TurnCases.{RanThere, bounded, fitting, places, any_none, turn_cases}

-- ---- what a turn that ran a seat has shown of it

-- its banks have 256 bytes, its positions lie within their ends, and the slice within a run's budget
record Runnable (c : TurnCall) (s : Seat) : Type 0 where
  pub opcodes : length s.setting.program.opcodes ≡ bank_size
  pub arguments : length s.setting.program.arguments ≡ bank_size
  pub ram : length s.ram ≡ bank_size
  pub stack : length s.stack ≡ bank_size
  pub key_position : s.state.position ≤ length s.setting.keys
  pub position_in_roll : s.roll_position ≤ length s.roll
  pub slice : c.slice ≤ max_budget

runnable : (c : TurnCall) (w : Room) (i : ℕ) → RanThere c w i → Runnable c (seat_of w i)
unfolding seat_of
runnable c w i r =
    let f = places c.seats w (fitting c.seats w r.kept.1.1.0) i r.below in
    let a : length (share_of w.keys w.key_lengths i) ≡ length_at w.key_lengths i =
    length_part w.keys (begin_of w.key_lengths i) (length_at w.key_lengths i) f.keys in
    let b : length (share_of w.rolls w.roll_lengths i) ≡ length_at w.roll_lengths i =
    length_part w.rolls (begin_of w.roll_lengths i) (length_at w.roll_lengths i) f.rolls in
    let t = neither (ltb (length_at w.key_lengths i) (get_or w.states i start_state).position) (ltb (length_at w.roll_lengths i) (get_or w.roll_positions i 0))
    (any_none (bad_position w.key_lengths w.roll_lengths w.states w.roll_positions) c.seats i r.kept.1.1.1.0 r.below) in
    let p : (get_or w.states i start_state).position ≤ length_at w.key_lengths i = ltb-false (length_at w.key_lengths i) (get_or w.states i start_state).position t.0 in
    let q : get_or w.roll_positions i 0 ≤ length_at w.roll_lengths i = ltb-false (length_at w.roll_lengths i) (get_or w.roll_positions i 0) t.1 in
    record {
      opcodes = length_part w.opcodes (bank_at i) bank_size f.opcodes;
      arguments = length_part w.arguments (bank_at i) bank_size f.arguments;
      ram = length_part w.ram (bank_at i) bank_size f.ram;
      stack = length_part w.stack (bank_at i) bank_size f.stack;
      key_position = omega arith;
      position_in_roll = omega arith;
      slice = omega (arith, (bounded c.seats c.slice r.kept.0 r.kept.1.0).most_steps);
    }

ran_there : (i : ℕ) (c : TurnCall) (w : Room) → ran_seat i (turn_of c w).answer ≡ true → RanThere c w i
unfolding ran_of
ran_there i c w =
    turn_cases (λ (o : TurnOutcome). ran_seat i o.answer ≡ true → RanThere c w i) c w
    (λ k f e. absurd (let z : ◌≡◌ {A = ℕ} 0 1 = cc in omega arith))
    (λ f e. absurd (let z : ◌≡◌ {A = ℕ} 0 1 = cc in omega arith))
    (λ j r e. subst (λ (k : ℕ). RanThere c w k) (eqb-true j i e) r)

-- ---- the run

bank_good : (l : List ℕ) → length l ≡ bank_size → bad_bank l ≡ false
bank_good l e = rw (eq-eqb (length l) bank_size e)

checks_of_run : (c : TurnCall) (s : Seat) → Runnable c s → NoneBroken (run_checks (call_in s.setting.program (run_at s c.slice) (snapshot_of s)))
checks_of_run c s r = (
  rw (
    bank_good s.setting.program.opcodes r.opcodes,
    bank_good s.setting.program.arguments r.arguments,
    bank_good s.ram r.ram,
    bank_good s.stack r.stack,
  ),
  (le-ltb _ _ r.key_position, (le-ltb max_budget _ r.slice, tt)),
)

-- the run's machine is the seat's, without what stood on its roll before
starts_later : (s : Seat) (slice : ℕ) → run_machine (run_at s slice) (snapshot_of s) ≡ later s.roll_position (machine_in s 0 0)
starts_later s slice = rw (sub_self s.roll_position)

within : (s : Seat) → s.roll_position ≤ length s.roll → Within s.roll_position (machine_in s 0 0)
within s h = record { written = le_refl s.roll_position; roll = h }

pub same_steps : SameSteps
same_steps s slice h =
    ap (trace_of s.setting slice) (starts_later s slice) ∙ trace_later s.setting s.roll_position slice (machine_in s 0 0) (within s h)

-- what a seat that came to the machine m tells, of a run that ended so
abbrev outcome_at : Seat → Ended → Outcome
outcome_at s e =
    outcome (ran e.stop e.machine.core.steps e.machine.core.cycles (e.machine.core.words - s.roll_position))
    e.machine.core.state e.machine.core.ram e.machine.stack (drop s.roll_position e.machine.core.roll)

run_told : (c : TurnCall) (s : Seat) → Runnable c s
    → outcome_of s.setting.program (run_at s c.slice) (snapshot_of s) ≡ outcome_at s (alone_of s c.slice)
unfolding outcome_of alone_of
run_told c s r =
    let k : Call = call_in s.setting.program (run_at s c.slice) (snapshot_of s) in
    passed_call k (checks_pass k (checks_of_run c s r))
    ∙ ap (λ (x : Machine). reported (run_of s.setting c.slice x)) (starts_later s c.slice)
    ∙ ap reported (run_later s.setting s.roll_position c.slice (machine_in s 0 0) (within s r.position_in_roll))

-- and what its turn told and left is just that
turn_told : (i : ℕ) (c : TurnCall) (w : Room) → EightPlaces w
    → told_by i (turn_of c w).answer (seat_of w i) (seat_of (turn_of c w).room i)
    ≡ cond (ran_seat i (turn_of c w).answer) (outcome_at (seat_of w i) (alone_of (seat_of w i) c.slice) ∷ []) []
unfolding ran_of
turn_told i c w e =
    turn_cases
    (λ (o : TurnOutcome). told_by i o.answer (seat_of w i) (seat_of o.room i) ≡ cond (ran_seat i o.answer) (outcome_at (seat_of w i) (alone_of (seat_of w i) c.slice) ∷ []) []) c w
    (λ k f. refl)
    (λ n. refl)
    (λ j r.
    by_test (eqb j i)
    (λ q.
    let d = alone_of (seat_of w j) c.slice in
    rw q
    (ap (λ (t : Seat). outcome (ran d.stop d.machine.core.steps d.machine.core.cycles (t.roll_position - (seat_of w i).roll_position)) t.state t.ram t.stack (drop (seat_of w i).roll_position t.roll) ∷ [])
    (ap (λ (k : ℕ). seat_of (ran_of c w j).room k) (sym (eqb-true j i q)) ∙ ran_same c w j r e)
    ∙ ap (λ (k : ℕ). outcome_at (seat_of w i) (alone_of (seat_of w k) c.slice) ∷ []) (eqb-true j i q)))
    (λ q. rw q))

-- ---- the list

-- what lies behind a run of a machine
abbrev snapshot_in : Machine → Snapshot
snapshot_in m = record { state = m.core.state; ram = m.core.ram; stack = m.stack }

runs_told : (i : ℕ) (cs : List TurnCall) (w : Room) (p : Program) → EightPlaces w → (seat_of w i).setting.program ≡ p
    → outcomes p (runs_at i cs w) (snapshot_of (seat_of w i)) ≡ told_at i cs w
unfolding runs_at told_at outcomes
runs_told i [] w p e q = refl
runs_told i (c ∷ cs) w p e q =
    let o = turn_of c w in
    let s : Seat = seat_of w i in
    let k = turn_kept c w i e in
    let rest = runs_told i cs o.room p k.eight (ap (λ (x : Setting). x.program) k.setting ∙ q) in
    let here = turn_told i c w e in
    by_test (ran_seat i o.answer)
    (λ t.
    let told : outcome_of p (run_at s c.slice) (snapshot_of s) ≡ outcome_at s (alone_of s c.slice) =
    sym (ap (λ (x : Program). outcome_of x (run_at s c.slice) (snapshot_of s)) q) ∙ run_told c s (runnable c w i (ran_there i c w t)) in
    let left : snapshot_of (seat_of o.room i) ≡ snapshot_in (alone_of s c.slice).machine = rw t at (ap snapshot_in k.machine) in
    rw (here, t)
    (ap (λ (x : Outcome). x ∷ outcomes p (runs_at i cs o.room) (left_by x (snapshot_of s))) told
    ∙ ap (λ (x : Snapshot). outcome_at s (alone_of s c.slice) ∷ outcomes p (runs_at i cs o.room) x) (sym left)
    ∙ ap (λ (x : List Outcome). outcome_at s (alone_of s c.slice) ∷ x) rest))
    (λ t.
    let same : snapshot_of (seat_of o.room i) ≡ snapshot_of s = rw t at (ap snapshot_in k.machine) ∙ ap snapshot_in (alone_none s) in
    rw (here, t) (ap (outcomes p (runs_at i cs o.room)) (sym same) ∙ rest))

pub demand_at_seats : DemandAtSeats
demand_at_seats L bytes admitted i cs w e q s =
    record { are_runs = runs_told i cs w L.program e q; holds = demand L bytes admitted (snapshot_of (seat_of w i)) s (runs_at i cs w) }
