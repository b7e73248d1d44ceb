-- A line has 35 bytes wherever its count has seven digits at most and its text has room; so a page of lines fits.
-- Assumes nothing.
use Prim.Native.Nat.{ℕ, ◌-◌, ◌*◌, ◌≤◌, ◌<◌}
use mathlib.Core.Path.{◌≡◌, refl}
use mathlib.Core.List.{List, [], ◌∷◌, ◌++◌}
use mathlib.Core.Logic.{⊎_elim}
use native.Mathlib.Omega.{arith}
use lib.ListN.{length, replicate, length-append, length-replicate}
use Rattle.pages.specs.Columns.{right_aligned}
use Rattle.pages.specs.Text.{decimal}
use Rattle.pages.proofs.Decimal.{digits_below}
use Rattle.model.specs.Run.{max_budget}
use Rattle.model.specs.Step.{Program, instr_at}
use Rattle.printing.specs.Print.{text_of, text_width, columns}
use Rattle.ranking.specs.Busier.{count_at}
use Rattle.ranking.specs.Ranking.{In}
use Rattle.busy_runs.specs.Lines.{line_of, lines_of}
use Rattle.busy_runs.specs.internal.Writing.{Narrow, AllNarrow}

right_long : (width : ℕ) (t : List ℕ) → length t ≤ width → length (right_aligned width t) ≡ width
unfolding right_aligned
right_long width t h = rw (length-append (replicate (width - length t) 32) t, length-replicate {A = ℕ} (width - length t) 32) (omega arith)

columns_long : (t : List ℕ) → length t ≤ text_width → length (columns t) ≡ text_width
columns_long t h = rw (length-append t (replicate (text_width - length t) 32), length-replicate {A = ℕ} (text_width - length t) 32) (omega arith)

module _ (p : Program) (counters : List ℕ) (few : (a : ℕ) → count_at counters a ≤ max_budget) where
  pub line_long : (a : ℕ) → Narrow p a → length (line_of p counters a) ≡ 35
  unfolding line_of
  line_long a h =
      let n : count_at counters a < 10000000 = omega (arith, few a) in
      let c = right_long 7 (decimal (count_at counters a)) (digits_below 6 (count_at counters a) n) in
      let t = columns_long (text_of (instr_at p a)) h in
      rw (
        length-append (right_aligned 7 (decimal (count_at counters a))) ((32 ∷ columns (text_of (instr_at p a))) ++ (10 ∷ [])),
        length-append (columns (text_of (instr_at p a))) (10 ∷ []),
        c,
        t,
      ) refl

  pub narrow_at : (l : List ℕ) → AllNarrow p l → (a : ℕ) → In a l → Narrow p a
  narrow_at [] n a i = absurd i
  narrow_at (x ∷ l) n a i = ⊎_elim (λ e. rw e n.0) (λ j. narrow_at l n.1 a j) i

  pub lines_long : (l : List ℕ) → AllNarrow p l → length (lines_of p counters l) ≡ 35 * length l
  unfolding lines_of
  lines_long [] n = refl
  lines_long (a ∷ l) n =
      let h = line_long a n.0 in
      let t = lines_long l n.1 in
      rw (length-append (line_of p counters a) (lines_of p counters l)) (omega arith)
