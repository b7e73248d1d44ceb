-- The lines of a text handed out one after another, from the place on to which a search has come.
-- Assumes nothing.
use Rattle.std.specs.Prelude.{ℕ, ◌+◌, ◌≤◌, ◌<◌, ◌≡◌, List, [], ◌∷◌, length, drop, Option, Some, None}
use Rattle.labels.specs.declared.Line.{Line}
use Rattle.labels.specs.declared.Lines.{Lines}
use Rattle.labels.specs.Lines.{lines_of}

-- a place of the text, and no more lines before it than bytes
abbrev pub InText : Lines → Type 0
InText s = (s.at ≤ length s.text.now) × (s.number ≤ s.at + 1)

-- the line at a place of a text, and the place of the next
pub record Turn (t : List ℕ) (at : ℕ) (l : List ℕ) (next : ℕ) : Type 0 where
  pub later : at < next
  pub within : next ≤ length t
  pub first : lines_of (drop at t) ≡ l ∷ lines_of (drop next t)

-- what is handed out, and what is left
abbrev pub GivesLine : Lines → Option Line → Lines → Type 0
GivesLine s (Some line) r =
    Turn s.text.now s.at line.bytes.now r.at × (line.start ≡ s.at) × (line.number ≡ s.number) × (r.text.now ≡ s.text.now) × (r.number ≡ s.number + 1)
GivesLine s None r = (lines_of (drop s.at s.text.now) ≡ []) × (r ≡ s)
