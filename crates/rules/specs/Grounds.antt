-- 01, 'Grounds, in checking order', 1 to 16: every rule as a check with its number and place, in one list; admission answers the first that
-- is broken. A ground is 01's term for a rule that refuses.
-- Assumes nothing.
use Rattle.std.specs.Prelude.{ℕ, zero, suc, ◌+◌, ◌%◌, List, [], ◌∷◌, ◌++◌, Bool, true, false, not, cond, ◌&&◌, ◌||◌, length, eqb, leb, ltb}
use Rattle.alu.specs.Alu.{settles_of}
use Rattle.isa.specs.Facts.{class_by}
use Rattle.isa.specs.declared.Class.{Class}
use Rattle.isa.specs.declared.Class.TheVariants.{Next, Jump, Branch, JumpReg, Call, Return, Push, Pop, Swap, Halt}
use Rattle.model.specs.Run.{tests_in}
use Rattle.model.specs.Step.{instr_at}
use Rattle.slices.specs.Checks.{Check, check, first_broken}
use Rattle.slices.specs.Sizes.{bank_size}
use Rattle.rules.specs.Sheet.{Listing, word, described, marked, routine, depth, routines, entry, need}
use Rattle.rules.specs.Successors.{Successor, successors, goes_on}

-- the checks of n places from i on, lowest first
unfoldable pub each : (ℕ → List Check) → ℕ → ℕ → List Check
each f i zero = []
each f i (suc n) = f i ++ each f (suc i) n

-- the lowest of the n numbers from i on that passes a test, or i + n
unfoldable pub find : (ℕ → Bool) → ℕ → ℕ → ℕ
find f i zero = i
find f i (suc n) = cond (f i) i (find f (suc i) n)

-- the lowest routine whose entry is an address, or their number
unfoldable pub callee : Listing → ℕ → ℕ
callee L t = find (λ r. eqb (entry L r) t) 0 (routines L)

-- ---- tests by class

abbrev pub is_jump_reg : Class → Bool
is_jump_reg (Next e) = false
is_jump_reg (Jump t) = false
is_jump_reg (Branch t n) = false
is_jump_reg JumpReg = true
is_jump_reg (Call t) = false
is_jump_reg Return = false
is_jump_reg (Push r) = false
is_jump_reg Pop = false
is_jump_reg (Swap r) = false
is_jump_reg Halt = false

-- pop or swap
abbrev pub is_pop_or_swap : Class → Bool
is_pop_or_swap (Next e) = false
is_pop_or_swap (Jump t) = false
is_pop_or_swap (Branch t n) = false
is_pop_or_swap JumpReg = false
is_pop_or_swap (Call t) = false
is_pop_or_swap Return = false
is_pop_or_swap (Push r) = false
is_pop_or_swap Pop = true
is_pop_or_swap (Swap r) = true
is_pop_or_swap Halt = false

abbrev pub is_return : Class → Bool
is_return (Next e) = false
is_return (Jump t) = false
is_return (Branch t n) = false
is_return JumpReg = false
is_return (Call t) = false
is_return Return = true
is_return (Push r) = false
is_return Pop = false
is_return (Swap r) = false
is_return Halt = false

-- a test of a call's target; no other class breaks it
abbrev pub of_call : (ℕ → Bool) → Class → Bool
of_call f (Next e) = false
of_call f (Jump t) = false
of_call f (Branch t n) = false
of_call f JumpReg = false
of_call f (Call t) = f t
of_call f Return = false
of_call f (Push r) = false
of_call f Pop = false
of_call f (Swap r) = false
of_call f Halt = false

-- ---- the rules

-- 1: "The opcode or argument bank isn't 256 bytes"
abbrev pub bad_banks : Listing → Bool
bad_banks L = not (eqb (length L.program.opcodes) bank_size && eqb (length L.program.arguments) bank_size)

-- 2: "The sheet isn't 512 bytes"
abbrev pub sheet_size : ℕ
sheet_size = 512

abbrev pub bad_sheet : Listing → Bool
bad_sheet L = not (eqb (length L.sheet) sheet_size)

-- 3: "The routine list's length is odd, 0 or over 128 bytes"
abbrev pub max_list_size : ℕ
max_list_size = 128

abbrev pub bad_list : Listing → Bool
bad_list L = eqb (length L.list % 2) 1 || (eqb (length L.list) 0 || ltb max_list_size (length L.list))

-- the checks of 1 to 3; `bad`: the list's length is wrong
abbrev pub length_checks : Listing → (bad : Bool) → List Check
length_checks L bad = check 1 0 (bad_banks L) ∷ check 2 0 (bad_sheet L) ∷ check 3 0 bad ∷ []

-- 1 to 3 for a listing
abbrev pub listing_checks : Listing → List Check
listing_checks L = length_checks L (bad_list L)

-- and for four buffers that a listing is to be written into: 02 [2], "3 a list buffer not of 128"; [7], "the list's being 128 bytes"
abbrev pub buffer_checks : (buffers : Listing) → List Check
buffer_checks B = length_checks B (not (eqb (length B.list) max_list_size))

-- 4: "A word without bit 15 isn't 0"
unfoldable pub bad_blank : Listing → ℕ → Bool
bad_blank L a = not (described L a) && not (eqb (word L a) 0)

-- 5: "A described word names a routine not in the list"
unfoldable pub bad_routine : Listing → ℕ → Bool
bad_routine L a = described L a && leb (routines L) (routine L a)

-- 6: "Routine 0's entry isn't 0"
abbrev pub bad_start : Listing → Bool
bad_start L = not (eqb (entry L 0) 0)

-- 7: "A routine's entry word isn't described, names another routine, has a depth above 0 or marks V"
unfoldable pub bad_entry : Listing → ℕ → Bool
bad_entry L r =
    not (described L (entry L r))
    || (not (eqb (routine L (entry L r)) r) || (ltb 0 (depth L (entry L r)) || marked L (entry L r)))

-- 16: "A successor isn't described, is in another routine, has another depth, or marks V against the rule"
-- (in a routine other than r)
abbrev pub bad_successor : Listing → (r : ℕ) → Successor → Bool
bad_successor L r x =
    not (described L x.to)
    || (not (eqb (routine L x.to) r)
    || (not (eqb (depth L x.to) x.depth_there) || (marked L x.to && not x.mark)))

abbrev pub any_bad : Listing → (r : ℕ) → List Successor → Bool
any_bad L r [] = false
any_bad L r (x ∷ xs) = bad_successor L r x || any_bad L r xs

-- the rules 8 to 16 at an address a of class k, in routine r, at depth d, with V marked or not
abbrev pub rules_at : Listing → (a : ℕ) → Class → (r d : ℕ) → Bool → List Check
rules_at L a k r d v =
    -- 8: "Its depth is over its routine's need"
    check 8 a (ltb (need L r) d)
    -- 9: "It is `jmp Ra`"
    ∷ check 9 a (is_jump_reg k)
    -- 10: "It is jv, jnv, jlt or jle and V isn't marked"
    ∷ check 10 a (tests_in k && not v)
    -- 11: "It is pop or swap at depth 0"
    ∷ check 11 a (is_pop_or_swap k && eqb d 0)
    -- 12: "It is ret in routine 0 or at a depth above 0"
    ∷ check 12 a (is_return k && (eqb r 0 || ltb 0 d))
    -- 13: "It is address 255 and its next word is a successor"
    ∷ check 13 a (eqb a 255 && goes_on k)
    -- 14: "It is a call whose target is no routine's entry"
    ∷ check 14 a (of_call (λ t. eqb (callee L t) (routines L)) k)
    -- 15: "It is a call and depth + 1 + the callee's need exceeds its own routine's need"
    ∷ check 15 a (of_call (λ t. ltb (need L r) (d + 1 + need L (callee L t))) k)
    ∷ check 16 a (any_bad L r (successors k a d v))
    ∷ []

-- `settles` says which ALU functions settle V (02, [4]: function 0000 does)
module _ (settles : ℕ → Bool) (L : Listing) where
  -- "Then each described address, lowest first, against 8 to 16"
  unfoldable pub address_checks_by : ℕ → List Check
  address_checks_by a =
      cond (described L a) (rules_at L a (class_by settles (instr_at L.program a)) (routine L a) (depth L a) (marked L a)) []

  -- every rule, in checking order
  unfoldable pub checks_by : List Check
  checks_by =
      (check 1 0 (bad_banks L) ∷ check 2 0 (bad_sheet L) ∷ check 3 0 (bad_list L) ∷ [])
      ++ (each (λ a. check 4 a (bad_blank L a) ∷ []) 0 bank_size
      ++ (each (λ a. check 5 a (bad_routine L a) ∷ []) 0 bank_size
      ++ ((check 6 0 (bad_start L) ∷ [])
      ++ (each (λ r. check 7 r (bad_entry L r) ∷ []) 0 (routines L)
      ++ each address_checks_by 0 bank_size))))

  unfoldable pub admit_by : ℕ
  admit_by = first_broken checks_by

-- by the function table
abbrev pub address_checks : Listing → ℕ → List Check
address_checks L a = address_checks_by settles_of L a

abbrev pub checks : Listing → List Check
checks L = checks_by settles_of L

abbrev pub admit_of : Listing → ℕ
admit_of L = admit_by settles_of L
