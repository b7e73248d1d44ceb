-- What the exports for shelf files promise.
-- Assumes nothing.
use Rattle.std.specs.Prelude.{ℕ, ◌≡◌, List, Result, Ok, Err}
use Rattle.rules.specs.Sheet.{Listing}
use Rattle.files.specs.Calls.{shelved_of, opened_of}
use Rattle.files.specs.Promise.{ShelfPromise}
use Rattle.shelf.specs.declared.ShelvedNumbers.{ShelvedNumbers}
use Rattle.shelf.specs.declared.OpenedNumbers.{OpenedNumbers}

-- 0 and the file's length, or the number of a refusal and 0
abbrev pub shelved_numbers : Result ℕ ℕ → ShelvedNumbers
shelved_numbers (Ok n) = (0, n)
shelved_numbers (Err q) = (q, 0)

-- 0 and the number of routines, or the number of a refusal and its place in the file
abbrev pub opened_numbers : Result ℕ (ℕ × ℕ) → OpenedNumbers
opened_numbers (Ok k) = (0, k)
opened_numbers (Err r) = (r.0, r.1)

-- the writer's call: the answer, what is left in the buffer, and what holds of all shelf files
pub record ShelvedAs (L : Listing) (before : List ℕ) (answer : ShelvedNumbers) (after : List ℕ) : Type 0 where
  pub answers : answer ≡ shelved_numbers (shelved_of L before).answer
  pub leaves : after ≡ (shelved_of L before).out
  pub promise : ShelfPromise

-- the opener's call: the answer, what is left in the four buffers, and the same
pub record OpenedAs (file : List ℕ) (before : Listing) (answer : OpenedNumbers) (after : Listing) : Type 0 where
  pub answers : answer ≡ opened_numbers (opened_of file before).answer
  pub leaves : after ≡ (opened_of file before).buffers
  pub promise : ShelfPromise
