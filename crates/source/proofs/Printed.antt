-- A text whose lines are printed forms assembles to them: such a line gives no label and names none, and stands for the one form that was printed.
-- Assumes nothing.
use Prim.Native.Nat.{ℕ, ◌+◌, ◌-◌, ◌≤◌, ◌<◌}
use native.Mathlib.Omega.{arith}
use mathlib.Core.Path.{◌≡◌, refl, sym, ap, ◌∙◌}
use mathlib.Core.Bool.{Bool, true, false, not, ◌&&◌, ◌||◌}
use mathlib.Core.List.{List, [], ◌∷◌}
use lib.Dec.{eqb, leb}
use lib.ListN.{length, get_or, take, drop, replicate}
use lib.Seq.{take-append_seam}
use borrow.Author.Tests.{eq-eqb, le-ltb, not-true}
use Rattle.slices.specs.Lists.{mapped}
use Rattle.slices.specs.Sizes.{bad_bank}
use Rattle.slices.proofs.Bools.{by_test, both}
use Rattle.slices.proofs.Lookup.{length_mapped}
use Rattle.isa.specs.Decode.{forms}
use Rattle.isa.specs.Encode.{bad_register, bad_function, Valid, join_of, encode_of, number_of}
use Rattle.isa.specs.declared.Instr.{Instr}
use Rattle.isa.specs.declared.Instr.TheVariants.{Nop}
use Rattle.isa.specs.Table.{row_of as tableRow, argument_in}
use Rattle.numbers.specs.Numbers.{fields_of, instr_of}
use Rattle.numbers.specs.declared.Fields.{Fields}
use Rattle.spelling.specs.Words.{word_length}
use Rattle.spelling.specs.Spellings.{forms_of}
use Rattle.std.specs.Prelude.{Option, Some}
use Rattle.reading.specs.declared.Fit.{Fit}
use Rattle.spelling.proofs.Rows.{all, all_at}
use Rattle.printing.specs.Print.{spelling_row, text_of, text_width, columns, printed_of, Prints}
use Rattle.printing.specs.declared.Printed.{Printed}
use Rattle.printing.proofs.AllForms as every
use Rattle.printing.specs.Shown.{shown_of}
use Rattle.printing.proofs.RoundTrip.{places_of, line_printed, no_name, forms_printed}
use Rattle.printing.proofs.Plain.{plain, text_plain, text_some}
use Rattle.printing.proofs.ValidFields.{row_told}
use Rattle.labels.specs.Lines.{on_first, lines_of, label_size, line_of, name_in, name_of, size_in, size_of, word_count}
use Rattle.labels.specs.internal.Search.{first_line, bad_line, bad_label, is_faulty}
use Rattle.labels.proofs.Sizes.{row_length}
use Rattle.words.specs.Program.{target_of, forms_in, forms_from, program_of}
use Rattle.assembling.specs.Assemble.{fault_of, answer_of}
use Rattle.assembling.proofs.Faults.{fault_is, good_fault}
use Rattle.source.specs.Source.{AssemblesTo, Printable, AllPrintable, ReadsPrinted}

no : false ≡ true → ⊥
no k = let q : ◌≡◌ {A = ℕ} 0 1 = cc in omega arith

-- a line without a colon gives no label
third_false : (a b c d : Bool) → c ≡ false → (((a && b) && c) && d) ≡ false
third_false true true c d e = rw e
third_false true false c d e = refl
third_false false b c d e = refl

plain_byte : (c : ℕ) → plain c ≡ true → eqb c 58 ≡ false
plain_byte c e = not-true (eqb c 58) (both (not (eqb c 10)) (not (eqb c 58)) e).1

unlabelled : (l : List ℕ) → all plain l ≡ true → label_size l ≡ 0
unfolding label_size
unlabelled l e =
    rw (third_false (leb 1 (word_length true l)) (leb (word_length true l) 12) (eqb (get_or l (word_length true l) 0) 58) (eqb (get_or l (word_length true l + 1) 0) 32)
    (plain_byte (get_or l (word_length true l) 0) (all_at plain 0 l refl e (word_length true l))))

-- the line of a printed form
module _ (i : Instr) (h : Printable i) where
  no_label : label_size (text_of i) ≡ 0
  no_label = unlabelled (text_of i) (text_plain i)

  line_is : line_of (text_of i) ≡ Some (record { row = spelling_row (fields_of i); places = places_of i })
  unfolding line_of
  line_is = rw no_label (line_printed i h.0 h.1)

  name_is : take (places_of i).size (drop (places_of i).from (text_of i)) ≡ []
  name_is = ap (λ (n : ℕ). take n (drop (places_of i).from (text_of i))) (no_name i h.0)

  names_none : name_of (text_of i) ≡ []
  unfolding name_of
  names_none = ap (λ (m : Option Fit). name_in m (text_of i)) line_is ∙ name_is

  target_is : (all : List (List ℕ)) → target_of all (text_of i) (places_of i) ≡ (places_of i).addr
  target_is all = rw name_is

  pub forms_are : (all : List (List ℕ)) (at : ℕ) → forms_in (line_of (text_of i)) all (text_of i) at ≡ shown_of i ∷ []
  forms_are all at =
      ap (λ (m : Option Fit). forms_in m all (text_of i) at) line_is
      ∙ (ap (λ (to : ℕ). forms_of (spelling_row (fields_of i)) (places_of i) to at) (target_is all) ∙ forms_printed i at h.0)

  pub size_one : size_of (text_of i) ≡ 1
  unfolding size_of
  size_one =
      ap size_in line_is
      ∙ (row_length (spelling_row (fields_of i)) (omega (arith, (row_told i h.0).within)) (places_of i) (places_of i) 0 (places_of i).addr 0 0
      ∙ ap length (forms_printed i 0 h.0))

  pub not_faulty : (t : List ℕ) (k : ℕ) → is_faulty t (text_of i) k ≡ false
  not_faulty t k = rw (no_label, names_none)

-- lines of printed forms: none is bad, none is faulty, and each is one word
none_bad : (is : List Instr) (k : ℕ) → AllPrintable is → first_line (λ l k. eqb (size_of l) 0) (mapped text_of is) k ≡ 0
unfolding first_line
none_bad [] k h = refl
none_bad (i ∷ is) k h = rw (size_one i h.0) (none_bad is (k + 1) h.1)

none_faulty : (t : List ℕ) (is : List Instr) (k : ℕ) → AllPrintable is → first_line (is_faulty t) (mapped text_of is) k ≡ 0
unfolding first_line
none_faulty t [] k h = refl
none_faulty t (i ∷ is) k h = rw (not_faulty i h.0 t k) (none_faulty t is (k + 1) h.1)

words_are : (is : List Instr) → AllPrintable is → word_count (mapped text_of is) ≡ length is
unfolding word_count
words_are [] h = refl
words_are (i ∷ is) h = rw (size_one i h.0, words_are is h.1) (omega arith)

forms_all : (all : List (List ℕ)) (is : List Instr) (at : ℕ) → AllPrintable is → forms_from all (mapped text_of is) at ≡ mapped shown_of is
unfolding forms_from
forms_all all [] at h = refl
forms_all all (i ∷ is) at h = rw (forms_are i h.0 all at) (ap (λ (js : List Instr). shown_of i ∷ js) (forms_all all is (at + size_of (text_of i)) h.1))

pub reads_printed : (t : List ℕ) → ReadsPrinted t
reads_printed t is h few e =
    record {
      answers = λ ops args g. unfold answer_of in (rw (sound ops args g, words, length_mapped shown_of is));
      opcodes = λ ops args g. rw (sound ops args g, program);
      arguments = λ ops args g. rw (sound ops args g, program);
    }
  where
    words : word_count (lines_of t) ≡ length is
    words = ap word_count e ∙ words_are is h

    bad : bad_line t ≡ 0
    bad = ap (λ (ls : List (List ℕ)). first_line (λ l k. eqb (size_of l) 0) ls 1) e ∙ none_bad is 1 h

    faulty : bad_label t ≡ 0
    faulty = ap (λ (ls : List (List ℕ)). first_line (is_faulty t) ls 1) e ∙ none_faulty t is 1 h

    sound : (ops args : List ℕ) → bad_bank ops || bad_bank args ≡ false → fault_of t ops args ≡ 0
    sound ops args g =
        good_fault t ops args g ∙ (fault_is t ∙ rw (eq-eqb (bad_line t) 0 bad, eq-eqb (bad_label t) 0 faulty, le-ltb 256 (word_count (lines_of t)) (omega (arith, words, few))))

    program : program_of t ≡ mapped shown_of is
    program = unfold program_of in (ap (λ (ls : List (List ℕ)). forms_from (lines_of t) ls 0) e ∙ forms_all (lines_of t) is 0 h)

-- a text without a line feed is one line
one_line : (t : List ℕ) → 0 < length t → all plain t ≡ true → lines_of t ≡ t ∷ []
unfolding lines_of
one_line [] h e = absurd (omega arith)
one_line (c ∷ []) h e = rw (not-true (eqb c 10) (both (not (eqb c 10)) (not (eqb c 58)) (both (plain c) true e).0).0)
one_line (c ∷ (d ∷ t)) h e =
    let u = both (plain c) (all plain (d ∷ t)) e in
    rw (not-true (eqb c 10) (both (not (eqb c 10)) (not (eqb c 58)) u.0).0) (ap (on_first c) (one_line (d ∷ t) (omega arith) u.1))

-- one printed form
pub reads_one : (i : Instr) → Printable i → AssemblesTo (text_of i) (shown_of i ∷ [])
reads_one i h = reads_printed (text_of i) (i ∷ []) (h, tt) (omega arith) (one_line (text_of i) (text_some i h.0) (text_plain i))

-- the number of a form made of numbers is one of them
abbrev Low : ℕ → Instr → Type 0
Low n i = (fields_of i).5 ≤ n

all_low : (d a f b n : ℕ) → every.All (Low n) (forms d a f b n)
all_low d a f b n = every.all_append (Low n) (take 20 (forms d a f b n)) (drop 20 (forms d a f b n)) (omega arith) (omega arith)

number_low : (x : Fields) → (fields_of (instr_of x)).5 ≤ x.5
unfolding instr_of
number_low x = every.all_at (Low x.5) (forms x.1 x.2 x.3 x.4 x.5) Nop (all_low x.1 x.2 x.3 x.4 x.5) (omega arith) x.0

-- a form that the encoder doesn't refuse is valid
valid_told : (i : Instr) → number_of (encode_of i) ≡ 0 → Valid i
unfolding encode_of join_of
valid_told i z =
    by_test (bad_register (tableRow i)) (λ a. absurd (omega (arith, rw a at z)))
    (λ a. by_test (bad_function (argument_in (tableRow i))) (λ b. absurd (omega (arith, rw (a, b) at z))) (λ b. (a, (b, tt))))

take_columns : (t : List ℕ) → take (length t) (columns t) ≡ t
take_columns t = take-append_seam t (replicate (text_width - length t) 32)

-- what is printed reads back
pub printed_back : (x : Fields) {r : Printed} → x.5 < 256 → Prints (instr_of x) r → r.0 ≡ 0 → AssemblesTo (take r.1 r.2) (shown_of (instr_of x) ∷ [])
unfolding printed_of
printed_back x {r} h p z =
    let i = instr_of x in
    let valid : Valid i = valid_told i (sym p.as_encoding ∙ z) in
    let whole : r ≡ (0, length (text_of i), columns (text_of i)) = p.rule ∙ rw (eq-eqb (number_of (encode_of i)) 0 (sym p.as_encoding ∙ z)) in
    let text : take r.1 r.2 ≡ text_of i = ap (λ (q : Printed). take q.1 q.2) whole ∙ take_columns (text_of i) in
    rw text (reads_one i (valid, omega (arith, number_low x)))
