-- The two bytes of a form by the encoder's answer, and the words of a line by its row.
-- Assumes nothing.
use Prim.Native.Nat.{ℕ, ◌+◌}
use mathlib.Core.Path.{◌≡◌, refl, sym, ap, ◌∙◌}
use mathlib.Core.List.{List, []}
use native.Mathlib.Nat.{add-zero}
use lib.ListN.{take, drop}
use Rattle.std.specs.Prelude.{Ok, Err}
use Rattle.isa.specs.Encode.{Encoded, encode_of}
use Rattle.isa.specs.declared.Instr.{Instr}
use Rattle.spelling.specs.Spellings.{forms_of}
use Rattle.std.specs.Prelude.{Option, Some, None}
use Rattle.reading.specs.declared.Fit.{Fit}
use Rattle.labels.specs.Lines.{lines_of, line_of}
use Rattle.labels.specs.internal.Search.{WordsOf}
use Rattle.labels.proofs.Sizes.{size_fits, size_misfits}
use Rattle.words.specs.Program.{opcode_from, argument_from, opcode_of, argument_of, target_by, target_of, forms_in}
use Rattle.words.specs.declared.Word.{Word}
use Rattle.words.specs.internal.Storing.{stored_in, LineStored}

abbrev word_in : Encoded → Word
word_in e = (opcode_from e, argument_from e)

pub word_told : (i : Instr) {e : Encoded} {op arg : ℕ} → e ≡ encode_of i → e ≡ Ok (op, arg) → ◌≡◌ {A = Word} (op, arg) (opcode_of i, argument_of i)
word_told i t q = sym (ap word_in (sym t ∙ q))

no_bytes : (e : Encoded) → ((bytes : ℕ × ℕ) → e ≡ Ok bytes → ⊥) → ◌≡◌ {A = Word} (0, 0) (word_in e)
no_bytes (Ok bytes) none = absurd (none bytes refl)
no_bytes (Err refusal) none = refl

pub word_refused : (i : Instr) {e : Encoded} → e ≡ encode_of i → ((bytes : ℕ × ℕ) → e ≡ Ok bytes → ⊥) → ◌≡◌ {A = Word} (0, 0) (opcode_of i, argument_of i)
word_refused i {e} t none = no_bytes e none ∙ ap word_in t

module _ (t l : List ℕ) (at : ℕ) (ops args : List ℕ) {m : Option Fit} (e : m ≡ line_of l) where
  forms_told : {f : Fit} → m ≡ Some f → forms_in (line_of l) (lines_of t) l at ≡ forms_of f.row f.places (target_of (lines_of t) l f.places) at
  forms_told q = ap (λ (x : Option Fit). forms_in x (lines_of t) l at) (sym e ∙ q)

  -- a line that fits a row
  pub line_stored : {fit : Fit} {n to : ℕ} {name ops' args' : List ℕ} → m ≡ Some fit → WordsOf fit.row n → to ≡ target_by (lines_of t) name fit.places.addr
      → name ≡ take fit.places.size (drop fit.places.from l)
      → (ops' ≡ stored_in opcode_of (forms_of fit.row fit.places to at) at ops) × (args' ≡ stored_in argument_of (forms_of fit.row fit.places to at) at args)
      → LineStored t l at (at + n) ops args ops' args'
  line_stored {fit} {n} {to} {name} q w f g s =
      let to_is : to ≡ target_of (lines_of t) l fit.places = f ∙ ap (λ (x : List ℕ). target_by (lines_of t) x fit.places.addr) g in
      let forms_are : forms_of fit.row fit.places to at ≡ forms_in (line_of l) (lines_of t) l at =
      ap (λ (x : ℕ). forms_of fit.row fit.places x at) to_is ∙ sym (forms_told q) in
      record {
        next = ap (λ (x : ℕ). at + x) (size_fits l e q w).0;
        opcodes = s.0 ∙ ap (λ (is : List Instr). stored_in opcode_of is at ops) forms_are;
        arguments = s.1 ∙ ap (λ (is : List Instr). stored_in argument_of is at args) forms_are;
      }

  -- a line that fits none
  pub misfit_stored : m ≡ None → LineStored t l at at ops args ops args
  unfolding stored_in
  misfit_stored q =
      let none : forms_in (line_of l) (lines_of t) l at ≡ [] = ap (λ (x : Option Fit). forms_in x (lines_of t) l at) (sym e ∙ q) in
      record {
        next = sym (add-zero at) ∙ ap (λ (x : ℕ). at + x) (size_misfits l e q);
        opcodes = sym (ap (λ (is : List Instr). stored_in opcode_of is at ops) none);
        arguments = sym (ap (λ (is : List Instr). stored_in argument_of is at args) none);
      }
