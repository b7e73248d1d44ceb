-- 02 [5]: a turn, as one call makes it: its refusals 28, 29, 17 and 18, the seat that runs, and all that it answers and leaves.
-- Assumes nothing.
use Rattle.std.specs.Prelude.{ℕ, zero, suc, ◌+◌, ◌%◌, ◌<◌, ◌≡◌, Bool, true, false, not, cond, ◌||◌, List, [], ◌∷◌, eqb, ltb, length, get_or, Option, Some, None, Result, Ok, Err, ⊤}
use Rattle.slices.specs.Checks.{Check, check, NoneBroken, FirstViolation}
use Rattle.model.specs.Run.{verdict_at}
use Rattle.model.specs.State.{start_state}
use Rattle.model.specs.declared.State.{State}
use Rattle.model.specs.declared.Stop.{Stop}
use Rattle.seats.specs.Room.{Room, max_seats, bank_at, begin_of, length_at, Seat, seat_of, with_seat, machine_in, alone_of, seat_at}
use Rattle.seats.specs.declared.SeatTurn.{SeatTurn}
use Rattle.seats.specs.declared.TurnRefusal.{TurnRefusal}
use Rattle.seats.specs.declared.TurnRefusal.TheVariants.{BadSeats, BadSlice, BadBuffers, BadPositions}

-- what a turn is called with: how many seats there are, "a slice of 1 to 1,000 steps", and the seat that it begins from
pub record TurnCall : Type 0 where
  pub seats : ℕ
  pub slice : ℕ
  pub from : ℕ

abbrev pub turn_call : (seats slice from : ℕ) → TurnCall
turn_call n slice from = record { seats = n; slice = slice; from = from }

abbrev pub seat_turn : (seat next : ℕ) → Stop → (steps cycles : ℕ) → SeatTurn
seat_turn i next y steps cycles = record { seat = i; next = next; stop = y; steps = steps; cycles = cycles }

-- the seat that ran, or none where none can go on; or why the call is refused
abbrev pub TurnAnswer : Type 0
TurnAnswer = Result (Option SeatTurn) TurnRefusal

-- all that a turn answers and leaves
pub record TurnOutcome : Type 0 where
  pub answer : TurnAnswer
  pub room : Room

abbrev pub turn_outcome : TurnAnswer → Room → TurnOutcome
turn_outcome a w = record { answer = a; room = w }

-- ---- refusals

-- 02's numbers
abbrev pub refusal_number : TurnRefusal → ℕ
refusal_number BadSeats = 28
refusal_number BadSlice = 29
refusal_number BadBuffers = 17
refusal_number BadPositions = 18

-- 28 "when the seats are 0 or over 8"
abbrev pub bad_seats : (seats : ℕ) → Bool
bad_seats n = eqb n 0 || ltb max_seats n

-- 29 "when the slice is 0 or over 1,000"
abbrev pub max_slice : ℕ
max_slice = 1000

abbrev pub bad_slice : (slice : ℕ) → Bool
bad_slice k = eqb k 0 || ltb max_slice k

-- 17: a buffer of banks isn't 256 bytes for each seat; "also when the lengths don't add up to their buffer"
abbrev pub bad_banks : (seats : ℕ) → List ℕ → Bool
bad_banks n l = not (eqb (length l) (bank_at n))

abbrev pub bad_lengths : (seats : ℕ) → (lengths : List ℕ) → List ℕ → Bool
bad_lengths n lengths l = not (eqb (begin_of lengths n) (length l))

unfoldable pub bad_buffers : (seats : ℕ) → (ops args keys ram stack rolls key_lengths roll_lengths : List ℕ) → Bool
bad_buffers n ops args keys ram stack rolls key_lengths roll_lengths =
    bad_banks n ops || bad_banks n args || bad_banks n ram || bad_banks n stack || bad_lengths n key_lengths keys || bad_lengths n roll_lengths rolls

-- 18 "for any seat": its key position is past its keys, "also for a roll position past its roll's end"
abbrev pub bad_position : (key_lengths roll_lengths : List ℕ) → (states : List State) → (roll_positions : List ℕ) → ℕ → Bool
bad_position key_lengths roll_lengths states roll_positions i =
    ltb (length_at key_lengths i) (get_or states i start_state).position || ltb (length_at roll_lengths i) (get_or roll_positions i 0)

unfoldable pub any_of : (fails : ℕ → Bool) → (seats : ℕ) → Bool
any_of fails zero = false
any_of fails (suc n) = any_of fails n || fails n

-- a refusal, and whether the call gives cause for it
pub record Cause : Type 0 where
  pub refusal : TurnRefusal
  pub given : Bool

abbrev pub cause : TurnRefusal → Bool → Cause
cause r b = record { refusal = r; given = b }

-- "28 ..; then 29 ..; then 17 ..; then 18"
abbrev pub turn_causes : (seats slice : ℕ) → Room → List Cause
turn_causes n slice w =
    cause BadSeats (bad_seats n)
    ∷ cause BadSlice (bad_slice slice)
    ∷ cause BadBuffers (bad_buffers n w.opcodes w.arguments w.keys w.ram w.stack w.rolls w.key_lengths w.roll_lengths)
    ∷ cause BadPositions (any_of (bad_position w.key_lengths w.roll_lengths w.states w.roll_positions) n)
    ∷ []

abbrev pub first_cause : List Cause → Result ⊤ TurnRefusal
first_cause [] = Ok tt
first_cause (x ∷ xs) = cond x.given (Err x.refusal) (first_cause xs)

unfoldable pub turn_fault : (seats slice : ℕ) → Room → Result ⊤ TurnRefusal
turn_fault n slice w = first_cause (turn_causes n slice w)

-- the same causes as rules with their numbers
abbrev pub checks_of : List Cause → List Check
checks_of [] = []
checks_of (x ∷ xs) = check (refusal_number x.refusal) 0 x.given ∷ checks_of xs

abbrev pub turn_checks : (seats slice : ℕ) → Room → List Check
turn_checks n slice w = checks_of (turn_causes n slice w)

-- ---- the seat that runs

abbrev pub is_go : Option Stop → Bool
is_go None = true
is_go (Some y) = false

-- whether no "stop other than spent prevents" a seat's next step: with a budget of 1 spent does not
unfoldable pub can_go : Seat → Bool
can_go s = is_go (verdict_at s.setting 1 (machine_in s 0 0))

abbrev pub goes_in : Room → ℕ → Bool
goes_in w i = can_go (seat_of w i)

-- "the seat after the one that ran, 0 after the last"
abbrev pub seat_after : (seats : ℕ) → ℕ → ℕ
seat_after n i = cond (eqb (i + 1) n) 0 (i + 1)

-- "Turns go round the seats in order, skipping seats": the first of k seats, from seat i on and round them, that goes
unfoldable pub first_from : (goes : ℕ → Bool) → (seats : ℕ) → (i k : ℕ) → Option ℕ
first_from goes n i zero = None
first_from goes n i (suc k) = cond (goes i) (Some i) (first_from goes n (seat_after n i) k)

-- "from a given seat on (modulo the seats)"
abbrev pub next_seat : TurnCall → Room → Option ℕ
next_seat c w = first_from (goes_in w) c.seats (c.from % c.seats) c.seats

-- ---- a turn

-- "one turn runs one seat for a slice", and "gives the seat after the one that ran"
unfoldable pub ran_of : TurnCall → Room → ℕ → TurnOutcome
ran_of c w i =
    let e = alone_of (seat_of w i) c.slice in
    turn_outcome (Ok (Some (seat_turn i (seat_after c.seats i) e.stop e.machine.core.steps e.machine.core.cycles)))
    (with_seat w i (seat_at (seat_of w i) e.machine))

-- "where none can go on it only says so"
abbrev pub made_of : TurnCall → Room → Option ℕ → TurnOutcome
made_of c w None = turn_outcome (Ok None) w
made_of c w (Some i) = ran_of c w i

-- a refusal leaves everything as it was
abbrev pub turn_by : (fault : Result ⊤ TurnRefusal) → TurnCall → Room → TurnOutcome
turn_by (Err r) c w = turn_outcome (Err r) w
turn_by (Ok u) c w = made_of c w (next_seat c w)

-- the whole outcome of a call
unfoldable pub turn_of : TurnCall → Room → TurnOutcome
turn_of c w = turn_by (turn_fault c.seats c.slice w) c w

-- 02's number for each case of the answer, 0 where nothing is refused
abbrev pub turn_number : TurnAnswer → ℕ
turn_number (Err r) = refusal_number r
turn_number (Ok x) = 0

-- whether seat i ran
abbrev pub ran_seat : ℕ → TurnAnswer → Bool
ran_seat i (Err r) = false
ran_seat i (Ok None) = false
ran_seat i (Ok (Some t)) = eqb t.seat i

-- ---- what is promised of a call and its outcome o, which is turn_of's

-- seat i is the first that goes: it is so many seats behind the given one, "modulo the seats", and no seat before it goes
pub record FirstToGo (goes : ℕ → Bool) (seats from i : ℕ) : Type 0 where
  pub behind : ℕ
  pub in_round : behind < seats
  pub lands : i ≡ (from + behind) % seats
  pub able_to_go : goes i ≡ true
  pub none_before : (d : ℕ) → d < behind → goes ((from + d) % seats) ≡ false

pub record TurnPromise (c : TurnCall) (w : Room) (o : TurnOutcome) : Type 0 where
  -- the first demand: refused by the first rule that the call breaks
  pub refuses : FirstViolation (turn_checks c.seats c.slice w) (turn_number o.answer)
  -- and everything lent is as it was then
  pub unchanged : (NoneBroken (turn_checks c.seats c.slice w) → ⊥) → o.room ≡ w
  -- it is as it was, too, where none can go on; and then none can
  pub none_kept : o.answer ≡ Ok None → o.room ≡ w
  pub none_goes : o.answer ≡ Ok None → (i : ℕ) → i < c.seats → goes_in w i ≡ false
  -- the seat that ran, and "the seat after the one that ran, 0 after the last"
  pub first : (t : SeatTurn) → o.answer ≡ Ok (Some t) → FirstToGo (goes_in w) c.seats c.from t.seat
  pub after : (t : SeatTurn) → o.answer ≡ Ok (Some t) → t.next ≡ (t.seat + 1) % c.seats
  -- every seat that did not run is as it was
  pub others_kept : (i : ℕ) → ran_seat i o.answer ≡ false → seat_of o.room i ≡ seat_of w i
