-- The search for the seat that runs: what the code looks at tells whether a seat can go on, and what is left of the search is the search.
-- Assumes nothing.
use mathlib.Core.Path.{◌≡◌, refl, ◌∙◌}
use mathlib.Core.Bool.{Bool, true, false, not, ◌&&◌, ◌||◌}
use mathlib.Core.List.{List}
use Prim.Native.Nat.{ℕ, zero, suc, ◌-◌, ◌/◌, ◌%◌, ◌<◌}
use native.Mathlib.Omega.{arith}
use lib.Dec.{eqb, leb}
use lib.ListN.{length, get_or, take, drop}
use Rattle.std.specs.Prelude.{Some, None}
use Rattle.slices.specs.Sizes.{bank_size}
use Rattle.slices.proofs.Bools.{by_test}
use Rattle.slices.proofs.Parts.{length_part}
use Rattle.slices.proofs.Tables.{same_below}
use Rattle.alu.specs.Alu.{is_settled}
use Rattle.isa.specs.Decode.{form_of, decode_of}
use Rattle.isa.specs.Facts.{writes_roll}
use Rattle.model.specs.Run.{tests_overflow, first_stop, verdict_of}
use Rattle.model.specs.State.{start_state}
use Rattle.model.specs.Step.{instr_at}
use Rattle.model.specs.declared.State.{State}
use Rattle.seats.specs.Room.{Room, bank_at, begin_of, length_at, bank_of, share_of, seat_of}
use Rattle.seats.specs.Turn.{is_go, can_go, goes_in, seat_after, first_from}
use Rattle.seats.specs.internal.Places.{Fitting}
use Rattle.seats.proofs.TurnCases.{places, after_below}
use Rattle.scheduling.specs.internal.Search.{is_overflow_jump, is_transfer, goes_at, goes_by}

-- ---- what an opcode tells, whatever stands at the letters: one computed test of its upper six bits each

jump_form : (a f b i k : ℕ) → k < 64 → tests_overflow (form_of (k / 4) (k % 4) a f b i) ≡ eqb k 0b110000 || eqb k 0b110001 || eqb k 0b110110 || eqb k 0b110111
unfolding form_of
jump_form a f b i k h =
    same_below (λ k. tests_overflow (form_of (k / 4) (k % 4) a f b i)) (λ k. eqb k 0b110000 || eqb k 0b110001 || eqb k 0b110110 || eqb k 0b110111) 64 refl k h

transfer_form : (a f b i k : ℕ) → k < 64 → writes_roll (form_of (k / 4) (k % 4) a f b i) ≡ eqb (k / 4) 0b1110
unfolding form_of
transfer_form a f b i k h = same_below (λ k. writes_roll (form_of (k / 4) (k % 4) a f b i)) (λ k. eqb (k / 4) 0b1110) 64 refl k h

jump_is : (op arg : ℕ) → op < 256 → tests_overflow (decode_of op arg) ≡ is_overflow_jump op
unfolding decode_of
jump_is op arg h =
    let e : op / 4 / 4 ≡ op / 16 = omega arith in
    rw (← e) (jump_form (op % 4) (arg / 16) (arg % 4) arg (op / 4) (omega arith))

transfer_is : (op arg : ℕ) → op < 256 → writes_roll (decode_of op arg) ≡ is_transfer op
unfolding decode_of
transfer_is op arg h =
    let e : op / 4 / 4 ≡ op / 16 = omega arith in
    rw (← e) (transfer_form (op % 4) (arg / 16) (arg % 4) arg (op / 4) (omega arith))

-- ---- a seat that can go on

go_is : (halted unsettled full : Bool) → not (halted || unsettled || full) ≡ is_go (first_stop halted false unsettled full)
go_is true unsettled full = refl
go_is false true full = refl
go_is false false true = refl
go_is false false false = refl

pub goes_is : (n : ℕ) (w : Room) → Fitting n w → ((j : ℕ) → get_or (bank_of w.opcodes j) (get_or w.states j start_state).pc 0 < 256) → (i : ℕ) → i < n
    → goes_by w.opcodes w.roll_lengths w.states w.roll_positions i ≡ goes_in w i
unfolding can_go seat_of verdict_of instr_at
goes_is n w f bytes i h =
    let op = get_or (bank_of w.opcodes i) (get_or w.states i start_state).pc 0 in
    let arg = get_or (bank_of w.arguments i) (get_or w.states i start_state).pc 0 in
    let l : length (share_of w.rolls w.roll_lengths i) ≡ length_at w.roll_lengths i =
    length_part w.rolls (begin_of w.roll_lengths i) (length_at w.roll_lengths i) (places n w f i h).rolls in
    let s = get_or w.states i start_state in
    rw (jump_is op arg (bytes i), transfer_is op arg (bytes i), l)
    (go_is s.halted (is_overflow_jump op && not (is_settled s.flags.v)) (is_transfer op && leb (length_at w.roll_lengths i) (get_or w.roll_positions i 0)))

-- what the code asks of seat i, with the numbers as it has them
pub goes_told : (ops rolls : List ℕ) (states : List State) (positions : List ℕ) (i b op : ℕ) (s : State) (r : Bool) → b ≡ bank_size
    → s ≡ get_or states i start_state → op ≡ get_or (take b (drop (bank_at i) ops)) s.pc 0
    → r ≡ goes_at op s (leb (length_at rolls i) (get_or positions i 0)) → r ≡ goes_by ops rolls states positions i
goes_told ops rolls states positions i b op s r eb es eo er = rw (er, eo, eb, es)

-- ---- the search

pub alike : (g h : ℕ → Bool) (n : ℕ) → ((j : ℕ) → j < n → g j ≡ h j) → (k i : ℕ) → i < n → first_from g n i k ≡ first_from h n i k
unfolding first_from
alike g h n e zero i b = refl
alike g h n e (suc k) i b =
    by_test (h i)
    (λ q. rw (first_from, e i b ∙ q, q))
    (λ q. rw (first_from, e i b ∙ q, q) (alike g h n e k (seat_after n i) (after_below n i b)))

-- where the search stands: at seat i, with so many seats left
pub record Searching (goes : ℕ → Bool) (n from i left : ℕ) : Type 0 where
  pub here : i < n
  pub rest : first_from goes n i left ≡ first_from goes n from n

module _ {goes : ℕ → Bool} {n from i left : ℕ} (s : Searching goes n from i left) where
  pub search_goes : (next rest : ℕ) → next ≡ seat_after n i → left ≡ suc rest → goes i ≡ false → Searching goes n from next rest
  unfolding first_from
  search_goes next rest e h q =
      let r : first_from goes n i (suc rest) ≡ first_from goes n from n = rw h at s.rest in
      record { here = rw e (after_below n i s.here); rest = rw e (rw (first_from, q) at r) }

  pub search_finds : 0 < left → goes i ≡ true → Some i ≡ first_from goes n from n
  unfolding first_from
  search_finds h q =
      let e : left ≡ suc (left - 1) = omega arith in
      let r : first_from goes n i (suc (left - 1)) ≡ first_from goes n from n = rw e at s.rest in
      rw (first_from, q) at r

  pub search_ends : left ≡ 0 → None ≡ first_from goes n from n
  unfolding first_from
  search_ends h = rw h at s.rest
