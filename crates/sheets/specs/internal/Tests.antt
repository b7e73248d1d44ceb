-- The rules 4, 5, 7 and 16 on a sheet word's parts. They are those of `rules` where the word is that of the sheet.
-- Assumes nothing.
use Rattle.std.specs.Prelude.{ℕ, Bool, not, ◌&&◌, ◌||◌, eqb, leb, ltb}
use Rattle.sheets.specs.declared.Word.{Word}

-- 4
abbrev pub bad_blank_word : Word → Bool
bad_blank_word w = not w.described && not w.blank

-- 5, where so many routines are listed
abbrev pub bad_routine_word : ℕ → Word → Bool
bad_routine_word n w = w.described && leb n w.routine

-- 7, of routine r's entry word
abbrev pub bad_entry_word : ℕ → Word → Bool
bad_entry_word r w = not w.described || (not (eqb w.routine r) || (ltb 0 w.depth || w.marked))

-- 16, of a successor's word, for routine r, depth d, where V may be marked or not
abbrev pub bad_word : Word → (r d : ℕ) → Bool → Bool
bad_word w r d v =
    not w.described || (not (eqb w.routine r) || (not (eqb w.depth d) || (w.marked && not v)))
