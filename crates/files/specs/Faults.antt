-- 02 [7]: each of the code's refusals in this paper's number, and the place in the file that comes with it.
-- Assumes nothing.
use Rattle.std.specs.Prelude.{ℕ, Result, Ok, Err}
use Rattle.groups.specs.Faults.{fault_number}
use Rattle.sheets.specs.Grounds.{rule_number}
use Rattle.files.specs.declared.ShelvingFault.{ShelvingFault}
use Rattle.files.specs.declared.ShelvingFault.TheVariants as shelving
use Rattle.files.specs.declared.OpeningFault.{OpeningFault}
use Rattle.files.specs.declared.OpeningFault.TheVariants as opening

-- "the writer gives 1 to 3 first", "32 when the writer's buffer is below 2,051 bytes"
abbrev pub shelving_number : ShelvingFault → ℕ
shelving_number (shelving.Length k) = rule_number k
shelving_number shelving.NoRoom = 32

-- "and so does the opener for its buffers"; then 30 and 31
abbrev pub opening_number : OpeningFault → ℕ
opening_number (opening.Length k) = rule_number k
opening_number (opening.File r) = fault_number r.fault

-- 0 where no file was looked at
abbrev pub opening_place : OpeningFault → ℕ
opening_place (opening.Length k) = 0
opening_place (opening.File r) = r.at

-- the writer's answer: the file's length, or a refusal's number
abbrev pub shelved_as : Result ℕ ShelvingFault → Result ℕ ℕ
shelved_as (Ok n) = Ok n
shelved_as (Err f) = Err (shelving_number f)

-- the opener's: the number of routines, or a refusal's number and its place
abbrev pub opened_as : Result ℕ OpeningFault → Result ℕ (ℕ × ℕ)
opened_as (Ok k) = Ok k
opened_as (Err f) = Err (opening_number f, opening_place f)
