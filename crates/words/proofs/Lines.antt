-- The loop over the lines that stores their forms: what is left of them, stored from here, leaves the banks of the whole.
-- Assumes nothing.
use Prim.Native.Nat.{ℕ, ◌+◌, ◌≤◌}
use native.Mathlib.Omega.{arith}
use mathlib.Core.Path.{◌≡◌, refl, sym, ap, ◌∙◌}
use mathlib.Core.List.{List, [], ◌∷◌, ◌++◌}
use lib.ListN.{length, drop}
use Rattle.isa.specs.declared.Instr.{Instr}
use Rattle.labels.specs.Lines.{lines_of, line_of, size_of, word_count}
use Rattle.labels.specs.internal.Turns.{Turn}
use Rattle.words.specs.Program.{forms_in, forms_from, program_of}
use Rattle.words.specs.internal.Storing.{stored_in, Ready}
use Rattle.words.proofs.Storing.{stored_append}
use Rattle.words.proofs.Counts.{line_length}

-- the lines from a place on are left, to be stored from `at` on
pub record StoringLines (byte : Instr → ℕ) (t : List ℕ) (b₀ : List ℕ) (from at : ℕ) (b : List ℕ) : Type 0 where
  pub room : length b ≡ length b₀
  pub left : stored_in byte (program_of t) 0 b₀ ≡ stored_in byte (forms_from (lines_of t) (lines_of (drop from t)) at) at b

-- where the loop stands: there is room for the words left
pub record AtWord (t : List ℕ) (from at : ℕ) : Type 0 where
  pub within : from ≤ length t
  pub low : at + word_count (lines_of (drop from t)) ≤ 256

pub words_start : {t addresses starts numbers : List ℕ} → Ready t addresses starts numbers → AtWord t 0 0
words_start r = record { within = omega arith; low = omega (arith, r.few) }

count_one : (l : List ℕ) (ls : List (List ℕ)) → word_count (l ∷ ls) ≡ size_of l + word_count ls
unfolding word_count
count_one l ls = refl

forms_one : (all : List (List ℕ)) (l : List ℕ) (ls : List (List ℕ)) (at : ℕ) → forms_from all (l ∷ ls) at ≡ forms_in (line_of l) all l at ++ forms_from all ls (at + size_of l)
unfolding forms_from
forms_one all l ls at = refl

pub storing_starts : (byte : Instr → ℕ) (t b : List ℕ) → StoringLines byte t b 0 0 b
unfolding program_of
storing_starts byte t b = record { room = refl; left = refl }

module _ {t : List ℕ} {from : ℕ} (at : ℕ) {l : List ℕ} {r a : ℕ} (m : Turn t from l a) (n : r ≡ at + size_of l) where
  pub words_go : AtWord t from at → AtWord t a r
  words_go w =
      let c : word_count (lines_of (drop from t)) ≡ size_of l + word_count (lines_of (drop a t)) =
      ap word_count m.first ∙ count_one l (lines_of (drop a t)) in
      record { within = m.within; low = omega (arith, w.low, c) }

  pub storing_goes : (byte : Instr → ℕ) {b₀ b b' : List ℕ} → StoringLines byte t b₀ from at b → b' ≡ stored_in byte (forms_in (line_of l) (lines_of t) l at) at b
      → length b' ≡ length b → StoringLines byte t b₀ a r b'
  storing_goes byte {b₀} {b} {b'} s q z =
      let all = lines_of t in
      let next : at + length (forms_in (line_of l) all l at) ≡ r = ap (λ (k : ℕ). at + k) (line_length l all at) ∙ sym n in
      record {
        room = z ∙ s.room;
        left = s.left
            ∙ (ap (λ (ls : List (List ℕ)). stored_in byte (forms_from all ls at) at b) m.first
            ∙ (ap (λ (is : List Instr). stored_in byte is at b) (forms_one all l (lines_of (drop a t)) at)
            ∙ (stored_append byte (forms_in (line_of l) all l at) (forms_from all (lines_of (drop a t)) (at + size_of l)) at b
            ∙ rw (next, ← n, ← q))));
      }

storing_none : (byte : Instr → ℕ) (all : List (List ℕ)) (at : ℕ) (b : List ℕ) → stored_in byte (forms_from all [] at) at b ≡ b
unfolding stored_in forms_from
storing_none byte all at b = refl

pub storing_ends : (byte : Instr → ℕ) (t : List ℕ) {b₀ b : List ℕ} {from at : ℕ} → StoringLines byte t b₀ from at b → lines_of (drop from t) ≡ []
    → b ≡ stored_in byte (program_of t) 0 b₀
storing_ends byte t {b₀} {b} {from} {at} s h =
    sym (s.left ∙ (ap (λ (ls : List (List ℕ)). stored_in byte (forms_from (lines_of t) ls at) at b) h ∙ storing_none byte (lines_of t) at b))
