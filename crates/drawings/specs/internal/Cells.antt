-- The cell of an address as a word, and how a cell takes in what is asked of it.
-- Assumes nothing.
use Rattle.std.specs.Prelude.{ℕ, ◌+◌, ◌*◌, ◌-◌, ◌/◌, ◌%◌, ◌<◌, ◌≡◌, Bool, true, false, not, cond, ◌&&◌, ◌||◌, List, [], ◌∷◌, eqb, leb, ltb}
use Rattle.drawings.specs.declared.Cell.{Cell}

abbrev pub cell : (entry depth : ℕ) → Bool → (need : ℕ) → Cell
cell e d v n = record { entry = e; depth = d; mark = v; need = n }

abbrev pub bit : Bool → ℕ
bit v = cond v 1 0

-- a word of 26 bits; 0 stands for an address that is not reached
unfoldable pub packed : Cell → ℕ
packed c = c.need % 256 + 256 * (c.depth % 256) + 65536 * (c.entry % 256) + 16777216 * bit c.mark + 33554432

unfoldable pub seen : ℕ → Bool
seen w = ltb 0 w

unfoldable pub need_in : ℕ → ℕ
need_in w = w % 256

unfoldable pub depth_in : ℕ → ℕ
depth_in w = w / 256 % 256

unfoldable pub entry_in : ℕ → ℕ
entry_in w = w / 65536 % 256

unfoldable pub mark_in : ℕ → Bool
mark_in w = eqb (w / 16777216 % 2) 1

abbrev pub cell_in : ℕ → Cell
cell_in w = cell (entry_in w) (depth_in w) (mark_in w) (need_in w)

abbrev pub larger : ℕ → ℕ → ℕ
larger x y = cond (ltb x y) y x

-- a reached cell keeps its entry and depth, loses a mark that may not stand, and takes the larger need
abbrev pub joined : Cell → Cell → Cell
joined u c = cell u.entry u.depth (u.mark && c.mark) (larger u.need c.need)

-- the word after c was asked of it
unfoldable pub merged : ℕ → Cell → ℕ
merged w c = packed (cond (seen w) (joined (cell_in w) c) c)

-- whether the word has what c asks of it
unfoldable pub has : ℕ → Cell → Bool
has w c = seen w && ((not (mark_in w) || c.mark) && leb c.need (need_in w))

-- ---- what falls whenever a word is changed

unfoldable pub weight : ℕ → ℕ
weight w = cond (seen w) (bit (mark_in w) + (255 - need_in w)) 257

abbrev pub total : List ℕ → ℕ
total [] = 0
total (w ∷ ws) = weight w + total ws

-- words before and after some demands, of which one was open or none
pub record Progress (changed : Bool) (ws ws' : List ℕ) : Type 0 where
  pub rests : changed ≡ false → ws' ≡ ws
  pub falls : changed ≡ true → total ws' < total ws
