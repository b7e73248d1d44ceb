-- THE THIRD DEMAND (01, 'Lists of runs'): what holds of every list of runs of an admitted listing, whatever the data, the old stack contents,
-- the keys, the registers, the flags Z, C and S, the budgets and the rolls.
-- Assumes nothing.
use Rattle.std.specs.Prelude.{ℕ, ◌+◌, ◌≤◌, ◌<◌, ◌≡◌, List, [], ◌∷◌, Bool, true, length, get_or, Result, Ok, Err}
use Rattle.isa.specs.declared.Class.{Class}
use Rattle.isa.specs.declared.Class.TheVariants.{Next, Jump, Branch, JumpReg, Call, Return, Push, Pop, Swap, Halt}
use Rattle.model.specs.Run.{Outcome, run_of, trace_of}
use Rattle.model.specs.State.{start_with}
use Rattle.model.specs.Step.{Setting, Machine, top_of, step_of}
use Rattle.model.specs.declared.Ran.{Ran}
use Rattle.model.specs.declared.Refusal.{Refusal}
use Rattle.model.specs.declared.Stop.TheVariants.{Unsettled}
use Rattle.rules.specs.Grounds.{admit_of}
use Rattle.rules.specs.RunLists.{Snapshot, ListedRun, Event, starts, steps, outcome_of, left_by, run_events, outcomes, events}
use Rattle.slices.specs.Sizes.{bank_size}
use Rattle.rules.specs.Sheet.{Listing, described, routine, need, class_at}
use Rattle.rules.specs.Tally.{Entry, byte, return_to, tally, Store, stores_of}

-- ---- a step

-- "Before pop or swap there is a last entry; it is no return entry, names the routine of the step's own sheet word, and holds the byte at SP"
pub data LastByte (r b : ℕ) : List Entry → Type 0 where
  last_byte : {row : List Entry} → LastByte r b (byte b r ∷ row)

-- "Before ret there is a last entry; it is a return entry, and its address is PC afterwards"
pub data LastReturnTo (a : ℕ) : List Entry → Type 0 where
  last_return_to : {row : List Entry} → LastReturnTo a (return_to a ∷ row)

-- by the class of the step: r is its routine, top the byte at SP, pc' PC afterwards
abbrev pub LastFits : Class → (r top pc' : ℕ) → List Entry → Type 0
LastFits (Next e) r top pc' row = Unit {0}
LastFits (Jump a) r top pc' row = Unit {0}
LastFits (Branch a n) r top pc' row = Unit {0}
LastFits JumpReg r top pc' row = Unit {0}
LastFits (Call a) r top pc' row = Unit {0}
LastFits Return r top pc' row = LastReturnTo pc' row
LastFits (Push q) r top pc' row = Unit {0}
LastFits Pop r top pc' row = LastByte r top row
LastFits (Swap q) r top pc' row = LastByte r top row
LastFits Halt r top pc' row = Unit {0}

-- "SP never wraps": it moves by one as a plain number
abbrev pub SpMoves : Class → (sp sp' : ℕ) → Type 0
SpMoves (Next e) sp sp' = sp' ≡ sp
SpMoves (Jump a) sp sp' = sp' ≡ sp
SpMoves (Branch a n) sp sp' = sp' ≡ sp
SpMoves JumpReg sp sp' = sp' ≡ sp
SpMoves (Call a) sp sp' = sp' + 1 ≡ sp
SpMoves Return sp sp' = sp' ≡ sp + 1
SpMoves (Push q) sp sp' = sp' + 1 ≡ sp
SpMoves Pop sp sp' = sp' ≡ sp + 1
SpMoves (Swap q) sp sp' = sp' ≡ sp
SpMoves Halt sp sp' = sp' ≡ sp

-- a step made from the machine m, where the run reads x and the row of entries is `row`
pub record StepHolds (L : Listing) (row : List Entry) (x : Setting) (m : Machine) : Type 0 where
  -- the program that runs is the listing's
  pub own_program : x.program ≡ L.program
  -- "Every step is at a described address"
  pub at_described : described L m.core.state.pc ≡ true
  pub last_fits :
      LastFits (class_at L m.core.state.pc) (routine L m.core.state.pc) (top_of m) (step_of x m).core.state.pc row
  -- "After every step the entries are at most routine 0's need, and SP is 255 less their number"
  pub within_need : length (tally L m row) ≤ need L 0
  pub sp_is : (step_of x m).core.state.sp + length (tally L m row) ≡ 255
  -- the stack pointer never wraps
  pub sp_moves : SpMoves (class_at L m.core.state.pc) m.core.state.sp (step_of x m).core.state.sp

-- the tally is fed the events from a row on: "empty at the list's beginning and at each start anew"
abbrev pub Tallied : Listing → List Entry → List Event → Type 0
Tallied L row [] = Unit {0}
Tallied L row (starts ∷ es) = Tallied L [] es
Tallied L row (steps x m ∷ es) = StepHolds L row x m × Tallied L (tally L m row) es

-- ---- a run

-- "No run's stop is `unsettled`"
abbrev pub NotUnsettled : Result Ran Refusal → Type 0
NotUnsettled (Err x) = Unit {0}
NotUnsettled (Ok r) = r.stop ≡ Unsettled → ⊥

abbrev pub NoneUnsettled : List Outcome → Type 0
NoneUnsettled [] = Unit {0}
NoneUnsettled (o ∷ os) = NotUnsettled o.answer × NoneUnsettled os

-- the steps fed to the tally are those of the second demand: each leads to the next, the last to what the run leaves
abbrev pub Leads : Setting → Machine → List Machine → Machine → Type 0
Leads x m [] m' = m ≡ m'
Leads x m (m₁ ∷ ms) m' = (m₁ ≡ m) × Leads x (step_of x m) ms m'

-- and they are as many as the run reports
pub record TraceIs (x : Setting) (n : ℕ) (m : Machine) : Type 0 where
  pub leads : Leads x m (trace_of x n m) (run_of x n m).machine
  pub counted : (run_of x n m).machine.core.steps ≡ m.core.steps + length (trace_of x n m)

-- ---- two lists

-- two stack banks agree at each of these addresses
abbrev pub AgreeAt : List ℕ → List ℕ → List ℕ → Type 0
AgreeAt [] st st' = Unit {0}
AgreeAt (a ∷ l) st st' = (get_or st a 0 ≡ get_or st' a 0) × AgreeAt l st st'

-- the addresses that a push, call or swap has stored to, those of a step and those of a list of events added to l
abbrev pub addresses_of : List Store → List ℕ → List ℕ
addresses_of [] l = l
addresses_of (x ∷ xs) l = addresses_of xs (x.at ∷ l)

abbrev pub stored_by : Listing → List Event → List ℕ → List ℕ
stored_by L [] l = l
stored_by L (starts ∷ es) l = stored_by L es l
stored_by L (steps x m ∷ es) l = stored_by L es (addresses_of (stores_of (class_at L m.core.state.pc) m.core.state) l)

-- "equal answers: the refusal, or all that a run reports and leaves, except stack bytes that no push, call or swap has stored to"
pub record Agree (l : List ℕ) (o o' : Outcome) : Type 0 where
  pub answer : o.answer ≡ o'.answer
  pub state : o.state ≡ o'.state
  pub ram : o.ram ≡ o'.ram
  pub roll : o.roll ≡ o'.roll
  pub stack : AgreeAt l o.stack o'.stack

-- "at each run" of a list from w and from w', where the addresses l were stored to before. Of a refused call only the answer is compared: what
-- it was lent is as it was
abbrev pub AgreeBy : Result Ran Refusal → List ℕ → Outcome → Outcome → Type 0
AgreeBy (Err x) l o o' = o.answer ≡ o'.answer
AgreeBy (Ok r) l o o' = Agree l o o'

abbrev pub AllAgree : Listing → List ℕ → List ListedRun → Snapshot → Snapshot → Type 0
AllAgree L l [] w w' = Unit {0}
AllAgree L l (r ∷ rs) w w' =
    let o = outcome_of L.program r w in
    let o' = outcome_of L.program r w' in
    let l' = stored_by L (run_events L.program r w) l in
    AgreeBy o.answer l' o o' × AllAgree L l' rs (left_by o w) (left_by o' w')

-- "alike in all but the stack's 256 bytes at the beginning"
pub record SameButStack (w w' : Snapshot) : Type 0 where
  pub state : w.state ≡ w'.state
  pub ram : w.ram ≡ w'.ram
  pub stack_long : length w'.stack ≡ bank_size

-- ---- the demand

-- "the list starts from a start state, with .. any data and stack bytes"
pub record Starts (w : Snapshot) : Type 0 where
  pub regs : List ℕ
  pub z : Bool
  pub c : Bool
  pub s : Bool
  pub state : w.state ≡ start_with regs z c s
  pub stack_long : length w.stack ≡ bank_size

pub record Holds (L : Listing) (w : Snapshot) (rs : List ListedRun) : Type 0 where
  pub tallied : Tallied L [] (events L.program rs w)
  pub none_unsettled : NoneUnsettled (outcomes L.program rs w)
  pub traces : (x : Setting) (n : ℕ) (m : Machine) → TraceIs x n m
  -- old stack contents never show in an answer
  pub noninterference : (w' : Snapshot) → SameButStack w w' → AllAgree L [] rs w w'

-- a lent slice of bytes
abbrev pub Bytes : List ℕ → Type 0
Bytes l = (i : ℕ) → get_or l i 0 < 256

abbrev pub Demand : Type 0
Demand = (L : Listing) → Bytes L.list → admit_of L ≡ 0 → (w : Snapshot) → Starts w → (rs : List ListedRun) → Holds L w rs
