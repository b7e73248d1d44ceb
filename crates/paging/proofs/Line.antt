-- The parts of a line written one behind another are the line; and a form that two bytes decode to is printed, not refused.
-- Assumes nothing.
use Prim.Native.Nat.{ℕ, ◌≤◌, ◌<◌}
use mathlib.Core.Path.{◌≡◌, sym, ap, ◌∙◌}
use mathlib.Core.List.{List, [], ◌∷◌, ◌++◌}
use lib.ListN.{length, get_or}
use Rattle.pages.specs.Columns.{right_aligned, hex_of}
use Rattle.pages.specs.Page.{Page, put_of, write_of}
use Rattle.pages.specs.Text.{decimal}
use Rattle.pages.proofs.Pages.{write_one, text_behind, byte_behind}
use Rattle.isa.specs.Decode.{decode_of}
use Rattle.isa.specs.Encode.{number_of}
use Rattle.isa.specs.declared.Instr.{Instr}
use Rattle.isa.proofs.Promises.{decodes}
use Rattle.model.specs.Step.{instr_at}
use Rattle.printing.specs.Print.{text_of, text_width, columns, answer, printed_of, Prints}
use Rattle.printing.specs.declared.Printed.{Printed}
use Rattle.ranking.specs.Busier.{count_at}
use Rattle.busy_runs.specs.Lines.{line_of}
use Rattle.busy_runs.specs.internal.Writing.{program, Narrow}

-- a byte before a text
byte_before : (y : ℕ) (xs : List ℕ) (p : Page) {q r : Page} → q ≡ put_of y p → r ≡ write_of xs q → r ≡ write_of (y ∷ xs) p
byte_before y xs p e h = h ∙ ap (write_of xs) e ∙ sym (write_one y xs p)

module _ (ops args counters : List ℕ) (a : ℕ) where
  pub line_written : {op arg n : ℕ} {t : List ℕ} (x : Page) {address gap count space text line : Page}
      → op ≡ get_or ops a 0 → arg ≡ get_or args a 0 → n ≡ count_at counters a → t ≡ columns (text_of (decode_of op arg))
      → address ≡ write_of (hex_of a) x → gap ≡ put_of 32 address → count ≡ write_of (right_aligned 7 (decimal n)) gap → space ≡ put_of 32 count
      → text ≡ write_of t space → line ≡ put_of 10 text
      → line ≡ write_of (line_of (program ops args) counters a) x
  unfolding line_of instr_at
  line_written {t = t} x {address} {gap} {count} {space} o g n e h₁ h₂ h₃ h₄ h₅ h₆ =
      let r : List ℕ = right_aligned 7 (decimal (count_at counters a)) in
      let s : t ≡ columns (text_of (instr_at (program ops args) a)) = rw (← o, ← g) e in
      rw (← s)
      (text_behind (hex_of a) _ x h₁
      (byte_before 32 (r ++ ((32 ∷ t) ++ (10 ∷ []))) address h₂
      (text_behind r ((32 ∷ t) ++ (10 ∷ [])) gap (rw n at h₃)
      (byte_before 32 (t ++ (10 ∷ [])) count h₄ (byte_behind t 10 space h₅ h₆)))))

  pub text_narrow : {op arg : ℕ} → op ≡ get_or ops a 0 → arg ≡ get_or args a 0 → length (text_of (decode_of op arg)) ≤ text_width → Narrow (program ops args) a
  unfolding instr_at
  text_narrow o g h = rw (← o, ← g) h

pub decoded_text : {op arg : ℕ} {i : Instr} {r : Printed} → op < 256 → arg < 256 → i ≡ decode_of op arg → Prints i r
    → (r.2 ≡ columns (text_of (decode_of op arg))) × (length (text_of (decode_of op arg)) ≤ text_width)
unfolding printed_of
decoded_text {op} {arg} {i} {r} h g e q =
    let n = ap number_of (decodes op arg h g i e).writes_back in
    let t : r.2 ≡ columns (text_of i) = ap (λ (r : Printed). r.2) (q.rule ∙ ap (λ (n : ℕ). answer n (text_of i)) n) in
    rw (← e) (t, q.short)
