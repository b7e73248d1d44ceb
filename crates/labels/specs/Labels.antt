-- Labels, and the lines that are refused as 24 and 25.
-- Assumes nothing.
use Rattle.std.specs.Prelude.{ℕ, ◌+◌, ◌-◌, Bool, true, false, cond, not, ◌&&◌, ◌||◌, List, [], ◌∷◌, eqb, take}
use Rattle.slices.specs.Checks.{Check, check}
use Rattle.labels.specs.Lines.{label_of, is_labelled, size_of, name_of, is_naming, word_count}

-- two names are the same: "case counts"
abbrev pub same : List ℕ → List ℕ → Bool
same [] [] = true
same [] (d ∷ m) = false
same (c ∷ l) [] = false
same (c ∷ l) (d ∷ m) = eqb c d && same l m

-- the first line, counted from k, that gives a name as its label, 0 for none
unfoldable pub given_at : List ℕ → List (List ℕ) → ℕ → ℕ
given_at name [] k = 0
given_at name (l ∷ ls) k = cond (same (label_of l) name) k (given_at name ls (k + 1))

-- the address that a label stands for: the words of the lines before the one that gives it
unfoldable pub address_of : List ℕ → List (List ℕ) → ℕ
address_of name all = word_count (take (given_at name all 1 - 1) all)

-- a line repeats a label that a line before it gives
abbrev pub repeats : List (List ℕ) → List ℕ → Bool
repeats before l = is_labelled l && not (eqb (given_at (label_of l) before 1) 0)

-- a line uses a label that no line gives
abbrev pub misses : List (List ℕ) → List ℕ → Bool
misses all l = is_naming l && eqb (given_at (name_of l) all 1) 0

-- a rule at each line, counted from k
abbrev pub at_each : ℕ → (List ℕ → ℕ → Bool) → List (List ℕ) → ℕ → List Check
at_each number broken [] k = []
at_each number broken (l ∷ ls) k = check number k (broken l k) ∷ at_each number broken ls (k + 1)

-- "24 when a line is no instruction or macro, with the first such line's number"
abbrev pub line_checks : List (List ℕ) → List Check
line_checks all = at_each 24 (λ l k. eqb (size_of l) 0) all 1

-- "25, after 24, when a label is missing or given twice, with the first line that uses or repeats it"
abbrev pub label_checks : List (List ℕ) → List Check
label_checks all = at_each 25 (λ l k. repeats (take (k - 1) all) l || misses all l) all 1
