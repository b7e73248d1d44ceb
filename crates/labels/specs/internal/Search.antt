-- Searches over the lines of a text as the code makes them.
-- Assumes nothing.
use Rattle.std.specs.Prelude.{ℕ, suc, ◌+◌, ◌*◌, ◌-◌, ◌%◌, ◌≤◌, ◌<◌, ◌≡◌, Bool, cond, ◌&&◌, ◌||◌, List, [], ◌∷◌, eqb, ltb, length, get_or, take, drop, set, replicate, Option, Some, None, Result, Ok, Err}
use Rattle.spelling.specs.Spellings.{forms_of}
use Rattle.spelling.specs.declared.Places.{Places}
use Rattle.labels.specs.declared.BadLine.{BadLine}
use Rattle.labels.specs.Lines.{lines_of, label_of, is_labelled, size_of}
use Rattle.labels.specs.Labels.{given_at, repeats, misses}

-- a number counted from 1 as an answer, none for 0
abbrev pub unless_zero : ℕ → Option ℕ
unless_zero n = cond (eqb n 0) None (Some n)

-- how many bytes stand before the first line feed
unfoldable pub cut_of : List ℕ → ℕ
cut_of [] = 0
cut_of (c ∷ t) = cond (eqb c 10) 0 (suc (cut_of t))

-- the first line, counted from k, that passes a test, 0 for none
unfoldable pub first_line : (List ℕ → ℕ → Bool) → List (List ℕ) → ℕ → ℕ
first_line f [] k = 0
first_line f (l ∷ ls) k = cond (f l k) k (first_line f ls (k + 1))

-- the first line that is no instruction or macro
abbrev pub bad_line : List ℕ → ℕ
bad_line t = first_line (λ l k. eqb (size_of l) 0) (lines_of t) 1

-- the first line that repeats a label or uses a missing one
abbrev pub is_faulty : List ℕ → List ℕ → ℕ → Bool
is_faulty t l k = repeats (take (k - 1) (lines_of t)) l || misses (lines_of t) l

abbrev pub bad_label : List ℕ → ℕ
bad_label t = first_line (is_faulty t) (lines_of t) 1

-- a count that stops above 256, so that no text is too long for it
abbrev pub more : ℕ → ℕ → ℕ
more n s = cond (ltb 256 n) n (n + s)

unfoldable pub count_from : ℕ → List (List ℕ) → ℕ
count_from n [] = n
count_from n (l ∷ ls) = count_from (more n (size_of l)) ls

-- the words before each line, in a list of 256 bytes: exact as far as they are at most 255
pub record Addresses (t : List ℕ) (known : ℕ) (addresses : List ℕ) : Type 0 where
  pub room : length addresses ≡ 256
  pub held : (j : ℕ) → j < known → j < 256 → get_or addresses j 0 ≡ count_from 0 (take j (lines_of t)) % 256

-- how many numbers there are by which names are looked up
abbrev pub slots : ℕ
slots = 4096

-- such a number for a name, whose letters are read behind a number h
unfoldable pub hash_from : ℕ → List ℕ → ℕ
hash_from h [] = h
hash_from h (c ∷ l) = hash_from ((33 * h + c) % slots) l

abbrev pub hash_of : List ℕ → ℕ
hash_of l = hash_from 0 l

-- a labelled line whose label's number has no entry yet
abbrev pub is_new : List ℕ → List ℕ → Bool
is_new l numbers = is_labelled l && eqb (get_or numbers (hash_of (label_of l)) 0) 0

abbrev pub starts_after : List ℕ → ℕ → List ℕ → List ℕ → List ℕ
starts_after l at numbers starts = cond (is_new l numbers) (set starts (hash_of (label_of l)) at) starts

abbrev pub numbers_after : List ℕ → ℕ → List ℕ → List ℕ
numbers_after l k numbers = cond (is_new l numbers) (set numbers (hash_of (label_of l)) k) numbers

-- no entry at all: each place is the text's end
abbrev pub NewIndex : List ℕ → List ℕ → List ℕ → Type 0
NewIndex t starts numbers = (starts ≡ replicate slots (length t)) × (numbers ≡ replicate slots 0)

-- for each such number a place of the text and the line there: no line before it gives a name of that number
pub record Index (t starts numbers : List ℕ) : Type 0 where
  pub start_room : length starts ≡ slots
  pub number_room : length numbers ≡ slots
  pub within : (h : ℕ) → get_or starts h 0 ≤ length t
  pub few : (h : ℕ) → get_or numbers h 0 ≤ get_or starts h 0 + 1
  pub skips : (name : List ℕ) → 0 < length name
      → given_at name (lines_of t) 1 ≡ given_at name (lines_of (drop (get_or starts (hash_of name) 0) t)) (get_or numbers (hash_of name) 0)

-- line k of a text, counted from 1
pub record IsLine (t : List ℕ) (k : ℕ) (l : List ℕ) : Type 0 where
  pub from : 1 ≤ k
  pub within : k ≤ length (lines_of t)
  pub is : get_or (lines_of t) (k - 1) [] ≡ l

-- the words of a row, whatever stands in its places
abbrev pub WordsOf : ℕ → ℕ → Type 0
WordsOf k n = (n ≤ 3) × ((p : Places) (to at : ℕ) → n ≡ length (forms_of k p to at))

-- the words of all lines, where each is an instruction or macro, and the words noted before each
pub record Surveyed (t : List ℕ) (counted : ℕ) (addresses : List ℕ) : Type 0 where
  pub good : bad_line t ≡ 0
  pub words : counted ≡ count_from 0 (lines_of t)
  pub known : Addresses t (length (lines_of t)) addresses

-- what a look at every line tells
abbrev pub Inspected : List ℕ → Result ℕ BadLine → List ℕ → Type 0
Inspected t (Ok words) addresses = Surveyed t words addresses
Inspected t (Err e) addresses = (e.number ≡ bad_line t) × (0 < e.number)
