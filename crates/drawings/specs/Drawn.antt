-- 02 [2], SHEETS DRAWN FOR MEMBERS: what is drawn from banks alone, and the whole outcome of a call.
-- Assumes nothing.
use Rattle.std.specs.Prelude.{ℕ, ◌≤◌, ◌<◌, ◌≡◌, true, not, List, [], ◌∷◌, length, eqb}
use Rattle.slices.specs.Checks.{Check, check, first_broken, FirstViolation}
use Rattle.slices.specs.Parts.{padded}
use Rattle.model.specs.Step.{Program}
use Rattle.rules.specs.Demand.{Bytes}
use Rattle.rules.specs.Grounds.{admit_of, bad_banks, bad_sheet, max_list_size}
use Rattle.rules.specs.Sheet.{Listing, word, described, marked, routines, entry, need}
use Rattle.drawings.specs.Reached.{banks, Reached}

-- the listing of banks, a sheet and a list
abbrev pub listed : Program → (sheet list : List ℕ) → Listing
listed p s l = record { program = p; sheet = s; list = l }

-- a sheet and a list, whoever drew them, that are admitted with the banks
pub record Admitted (p : Program) (s l : List ℕ) : Type 0 where
  pub sheet_bytes : Bytes s
  pub list_bytes : Bytes l
  pub accepted : admit_of (listed p s l) ≡ 0

-- a listing has a routine with the entry e, and gives it no smaller need than n
pub record NeedsAtLeast (L : Listing) (e n : ℕ) : Type 0 where
  pub number : ℕ
  pub in_list : number < routines L
  pub entry_is : entry L number ≡ e
  pub at_least : (r : ℕ) → r < routines L → entry L r ≡ e → n ≤ need L r

-- a sheet and a list as they are drawn from banks
pub record Drawn (p : Program) (s l : List ℕ) : Type 0 where
  -- "What is drawn is admitted"
  pub admitted : Admitted p s l
  -- described is "what successors and calls reach from address 0", and nothing else; all other words are 0
  pub only_reached : (a : ℕ) → described (listed p s l) a ≡ true → Reached p a
  pub all_reached : (a : ℕ) → Reached p a → described (listed p s l) a ≡ true
  pub others_blank : (a : ℕ) → (Reached p a → ⊥) → word (listed p s l) a ≡ 0
  -- "routines numbered with 0 first and then by entry address"
  pub zero_first : entry (listed p s l) 0 ≡ 0
  pub by_entry : (r q : ℕ) → r < q → q < routines (listed p s l) → entry (listed p s l) r < entry (listed p s l) q
  -- "Each need is the least that any admitted sheet gives the routine with that entry"
  pub least :
      (s' l' : List ℕ) → Admitted p s' l' → (r : ℕ) → r < routines (listed p s l)
      → NeedsAtLeast (listed p s' l') (entry (listed p s l) r) (need (listed p s l) r)
  -- "V marked there wherever some admitted sheet could mark it"; it is admitted itself, so it marks V nowhere else
  pub marks :
      (s' l' : List ℕ) → Admitted p s' l' → (a : ℕ) → Reached p a → marked (listed p s' l') a ≡ true
      → marked (listed p s l) a ≡ true

-- ---- a call

-- what a call is lent: the banks, and a buffer each for the sheet and the list
pub record Lent : Type 0 where
  pub program : Program
  pub sheet : List ℕ
  pub list : List ℕ

abbrev pub lent : (ops args sheet list : List ℕ) → Lent
lent ops args s l = record { program = banks ops args; sheet = s; list = l }

-- what it answers, 0 or the number of a refusal with the number of routines, and what it leaves in both buffers
pub record Outcome : Type 0 where
  pub number : ℕ
  pub count : ℕ
  pub sheet : List ℕ
  pub list : List ℕ

abbrev pub outcome : ℕ → ℕ → (sheet list : List ℕ) → Outcome
outcome n k s l = record { number = n; count = k; sheet = s; list = l }

-- "1 covers the banks, 2 a sheet buffer not of 512 bytes, 3 a list buffer not of 128"
abbrev pub size_checks : Lent → List Check
size_checks c =
    check 1 0 (bad_banks (listed c.program [] []))
    ∷ check 2 0 (bad_sheet (listed c.program c.sheet []))
    ∷ check 3 0 (not (eqb (length c.list) max_list_size))
    ∷ []

unfoldable pub size_fault : Lent → ℕ
size_fault c = first_broken (size_checks c)

-- a refusal hands back its number only, and leaves both buffers
abbrev pub refused : ℕ → Lent → Outcome
refused n c = outcome n 0 c.sheet c.list

pub data Draws (c : Lent) : Outcome → Type 0 where
  bad_size : (size_fault c ≡ 0 → ⊥) → Draws c (refused (size_fault c) c)
  -- "then 27 when no sheet and list at all would be admitted, and in no other case"
  none_admitted : size_fault c ≡ 0 → ((s l : List ℕ) → Admitted c.program s l → ⊥) → Draws c (refused 27 c)
  -- "The answer gives the number of routines, and the list buffer is 0 after them"
  draws :
      size_fault c ≡ 0 → (s l : List ℕ) → Drawn c.program s l
      → Draws c (outcome 0 (routines (listed c.program s l)) s (padded max_list_size l))

-- THE PROMISE of a call and its outcome
pub record DrawnAs (c : Lent) (o : Outcome) : Type 0 where
  pub draws_it : Draws c o
  -- the first of 1, 2 and 3 that applies
  pub first_size : FirstViolation (size_checks c) (size_fault c)
  -- the answer and both buffers are determined: there is one drawing at most
  pub only_one : (o' : Outcome) → Draws c o' → o' ≡ o
