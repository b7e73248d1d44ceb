-- The number that stands for a broken rule at a place.
-- Assumes nothing.
use Rattle.std.specs.Prelude.{ℕ, ◌+◌, ◌*◌, Result, Ok, Err}
use Rattle.sheets.specs.declared.grounds.Ground.{Ground}
use Rattle.sheets.specs.declared.grounds.Rule.{Rule}
use Rattle.sheets.specs.declared.grounds.Rule.TheVariants as rule

-- 01, 'Grounds, in checking order', 1 to 16
abbrev pub rule_number : Rule → ℕ
rule_number rule.BankSizes = 1
rule_number rule.SheetSize = 2
rule_number rule.ListSize = 3
rule_number rule.Blank = 4
rule_number rule.Routine = 5
rule_number rule.Start = 6
rule_number rule.Entry = 7
rule_number rule.Depth = 8
rule_number rule.JumpByRegister = 9
rule_number rule.UnmarkedV = 10
rule_number rule.PopOrSwap = 11
rule_number rule.Return = 12
rule_number rule.LastAddress = 13
rule_number rule.Callee = 14
rule_number rule.Need = 15
rule_number rule.Successor = 16

-- a broken rule of a whole listing
abbrev pub of_listing : Rule → Ground
of_listing k = record { rule = k; place = 0 }

-- "Admission answers 0, or number + 256 × place"
unfoldable pub answer_of : Result Unit Ground → ℕ
answer_of (Ok done) = 0
answer_of (Err g) = rule_number g.rule + 256 * g.place

-- of a rule of a whole listing, as those of its lengths
unfoldable pub length_answer : Result Unit Rule → ℕ
length_answer (Ok done) = 0
length_answer (Err k) = rule_number k
