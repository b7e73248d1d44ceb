-- 01, 'Listing A and the edges': the rows marked for proof, M1 to M10, as one table. What a row does not mention of the flags follows from
-- 01's rules for them.
-- Assumes nothing.
use Rattle.std.specs.Prelude.{ℕ, ◌≡◌, List, [], ◌∷◌, Bool, true, false, get_or, replicate}
use Rattle.alu.specs.Alu.{alu_of}
use Rattle.alu.specs.declared.Computed.{Computed}
use Rattle.alu.specs.declared.Overflow.{Overflow}
use Rattle.alu.specs.declared.Overflow.TheVariants.{Unsettled, Settled}
use Rattle.model.specs.State.{with_register, with_sp, start_state}
use Rattle.model.specs.Step.{setting, Machine, machine_at, step_of}
use Rattle.slices.specs.Lists.{mapped}
use Rattle.slices.specs.Parts.{padded}
use Rattle.slices.specs.Sizes.{bank_size}
use Rattle.rules.specs.Grounds.{admit_of}
use Rattle.examples.specs.Listings.{from_words, words_a, list_a, listed_a}

-- what a row tells: a result with its flags, the stack's byte at 255 with SP, or admission's answer
pub data Seen : Type 0 where
  computes : Computed → Seen
  leaves : (at255 sp : ℕ) → Seen
  answers : ℕ → Seen

pub record Row : Type 0 where
  pub number : ℕ
  pub found : Seen
  pub stated : Seen

-- ALU function f of Ra's and Rb's bytes and the carry flag
abbrev pub alu : (f ra rb : ℕ) → Bool → Seen
alu f ra rb c = computes (alu_of f ra rb c)

abbrev pub result : ℕ → (z c s : Bool) → Overflow → Seen
result n z c s v = computes (record { value = n; flags = record { z = z; c = c; s = s; v = v } })

-- `push R0` at SP 0, where R0 holds b
abbrev pub before_push : ℕ → Machine
before_push b = machine_at (with_sp (with_register start_state 0 b) 0) (replicate bank_size 0) (replicate bank_size 0) [] 0 0 0

abbrev pub after_step : Machine → Seen
after_step m = leaves (get_or m.stack 255 0) m.core.state.sp

abbrev pub push : ℕ → Seen
push b = after_step (step_of (setting (padded bank_size (0x5C ∷ [])) (replicate bank_size 0) []) (before_push b))

abbrev pub row : ℕ → Seen → Seen → Row
row n x y = record { number = n; found = x; stated = y }

-- M1 to M10; in M8 any byte b is pushed
abbrev pub rows : ℕ → List Row
rows b =
    -- M1 "add 127, 1: 128, S and V set, Z and C clear"
    row 1 (alu 0b0001 127 1 false) (result 128 false false true (Settled true))
    -- M2 "sub 0, 1: 255, C and S set, V clear"
    ∷ row 2 (alu 0b0010 0 1 false) (result 255 false true true (Settled false))
    -- M3 "sub 128, 1: 127, V set, C clear"
    ∷ row 3 (alu 0b0010 128 1 false) (result 127 false false false (Settled true))
    -- M4 "subb 5, 5 with C: 255, C set, V clear"
    ∷ row 4 (alu 0b0100 5 5 true) (result 255 false true true (Settled false))
    -- M5 "addc 255, 0 with C: 0, Z and C set, V clear"
    ∷ row 5 (alu 0b0011 255 0 true) (result 0 true true false (Settled false))
    -- M6 "rol 129: 3, C set"
    ∷ row 6 (alu 0b1111 129 0 false) (result 3 false true false Unsettled)
    -- M7 "sra 128: 192, C clear"
    ∷ row 7 (alu 0b1110 128 0 false) (result 192 false false true Unsettled)
    -- M8 "push at SP 0: byte stored at 255, SP 255"
    ∷ row 8 (push b) (leaves b 255)
    -- M9 "listing A with need 1 for routine 0: 271"
    ∷ row 9 (answers (admit_of (listed_a (0x00 ∷ 0x01 ∷ 0x04 ∷ 0x01 ∷ [])))) (answers 271)
    -- M10 "listing A with C000 at 2: 272"
    ∷ row 10 (answers (admit_of (from_words (words_a 0xC000 0x8100 0xC100 []) list_a))) (answers 272)
    ∷ []

-- all ten rows are there, and each is as stated
pub record Marked (b : ℕ) : Type 0 where
  pub numbers : mapped (λ (x : Row). x.number) (rows b) ≡ 1 ∷ 2 ∷ 3 ∷ 4 ∷ 5 ∷ 6 ∷ 7 ∷ 8 ∷ 9 ∷ 10 ∷ []
  pub as_stated : mapped (λ (x : Row). x.found) (rows b) ≡ mapped (λ (x : Row). x.stated) (rows b)
