-- From an answer's one equation to all that is promised, of a form that is refused and of one that is printed.
-- Assumes nothing.
use Prim.Native.Nat.{ℕ, zero, suc, ◌-◌, ◌≤◌}
use native.Mathlib.Omega.{arith}
use native.Mathlib.Nat.{sub-zero}
use mathlib.Core.Path.{◌≡◌, ap, ◌∙◌}
use mathlib.Core.List.{List, []}
use lib.Dec.{eqb}
use lib.ListN.{length, drop, replicate}
use borrow.Author.Tests.{eqb-true, ne_eqb}
use Rattle.slices.proofs.Bools.{by_test}
use Rattle.pages.specs.Page.{Page, page, write_of}
use Rattle.pages.proofs.Pages.{write_whole}
use Rattle.isa.specs.Encode.{encode_of, number_of}
use Rattle.isa.specs.declared.Instr.{Instr}
use Rattle.isa.proofs.Refusals.{encode_checked}
use Rattle.numbers.specs.Numbers.{fields_of}
use Rattle.printing.specs.Print.{text_of, text_width, columns, answer, printed_of, Prints}
use Rattle.printing.specs.declared.Printed.{Printed}
use Rattle.printing.proofs.Bytes.{Bytes}
use Rattle.printing.proofs.Widths.{text_short}

number_of_answer : (n : ℕ) (t : List ℕ) → (answer n t).0 ≡ n
number_of_answer n t = by_test (eqb n 0) (λ e. rw (eqb-true n 0 e)) (λ e. rw e)

prints : (i : Instr) (r : Printed) → Bytes (fields_of i) → r ≡ printed_of i → Prints i r
unfolding printed_of
prints i r h e =
    let n : r.0 ≡ number_of (encode_of i) = ap (λ (r : Printed). r.0) e ∙ number_of_answer (number_of (encode_of i)) (text_of i) in
    record { rule = e; as_encoding = n; checked = rw n (encode_checked i); short = text_short i h }

pub refused : (i : Instr) (n : ℕ) → Bytes (fields_of i) → n ≡ number_of (encode_of i) → (n ≡ 0 → ⊥) → Prints i (n, 0, columns [])
unfolding printed_of
refused i n h e z = prints i (n, 0, columns []) h (rw (← e, ne_eqb n 0 z))

drop_replicate : (c n m : ℕ) → drop n (replicate m c) ≡ replicate (m - n) c
drop_replicate c zero m = rw (sub-zero m)
drop_replicate c (suc n) zero = let e : 0 - suc n ≡ 0 = omega arith in rw e
drop_replicate c (suc n) (suc m) = let e : suc m - suc n ≡ m - n = omega arith in rw e (drop_replicate c n m)

-- the text of a form, written over spaces
module _ {b : List ℕ} {m : ℕ} (i : Instr) (h : Bytes (fields_of i)) (w : page b m ≡ write_of (text_of i) (page (replicate text_width 32) 0)) where
  whole : page b m ≡ page (columns (text_of i)) (length (text_of i))
  whole = w ∙ write_whole (text_of i) (replicate text_width 32) (text_short i h) ∙ rw (drop_replicate 32 (length (text_of i)) text_width)

  pub printed_length : m ≤ text_width
  printed_length = let e : m ≡ length (text_of i) = ap (λ (p : Page). p.at) whole in omega (arith, text_short i h)

  pub printed : number_of (encode_of i) ≡ 0 → Prints i (0, m, b)
  unfolding printed_of
  printed e = prints i (0, m, b) h (rw e (ap (λ (p : Page). (0, p.at, p.bytes)) whole))
