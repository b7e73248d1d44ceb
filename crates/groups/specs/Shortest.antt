-- 02 [7]: "always the shortest form"; "30 when a number is cut off or isn't shortest". What the groups of a number are among all that make it,
-- and what stands in front of a row of bytes.
-- Assumes nothing.
use Rattle.std.specs.Prelude.{ℕ, ◌+◌, ◌*◌, ◌%◌, ◌≤◌, ◌<◌, ◌≡◌, List, [], ◌∷◌, ◌++◌, length}
use Rattle.groups.specs.Groups.{groups_of, some, none, number_in}

-- bytes that make a number, shortest or not: "seven-bit groups, lowest group first, top bit set on all but the last group"
pub data Makes : List ℕ → ℕ → Type 0 where
  last : (b : ℕ) → b < 128 → Makes (b ∷ []) b
  more : (b : ℕ) {gs : List ℕ} {v : ℕ} → 128 ≤ b → b < 256 → Makes gs v → Makes (b ∷ gs) (b % 128 + 128 * v)

-- the groups of a number make it, and no fewer do
pub record Shortest (n : ℕ) : Type 0 where
  pub makes : Makes (groups_of n) n
  pub least : (gs : List ℕ) → Makes gs n → length (groups_of n) ≤ length gs

-- the number in front of a row of bytes: it is read in its shortest form, and in no longer one; where no groups in front make a number, it is
-- cut off
pub record InFront (bs : List ℕ) : Type 0 where
  pub shortest : (gs rest : List ℕ) (v : ℕ) → Makes gs v → bs ≡ gs ++ rest → length gs ≡ length (groups_of v) → number_in bs ≡ some v rest
  pub longer : (gs rest : List ℕ) (v : ℕ) → Makes gs v → bs ≡ gs ++ rest → length (groups_of v) < length gs → number_in bs ≡ none
  pub cut_off : ((gs rest : List ℕ) (v : ℕ) → Makes gs v → bs ≡ gs ++ rest → ⊥) → number_in bs ≡ none
