-- The first rule that a text breaks, by the first bad line, the first faulty label and the number of words; and from the answer and both banks to
-- the whole outcome.
-- Assumes nothing.
use Prim.Native.Nat.{ℕ, ◌+◌, ◌*◌, ◌/◌, ◌%◌, ◌≤◌, ◌<◌}
use native.Mathlib.Omega.{arith}
use mathlib.Core.Path.{◌≡◌, refl, sym, ap, ◌∙◌}
use mathlib.Core.Bool.{Bool, true, false, cond, ◌||◌}
use mathlib.Core.List.{List, [], ◌∷◌, ◌++◌}
use lib.Dec.{eqb, ltb}
use lib.ListN.{length}
use borrow.Author.Tests.{eq-eqb, ne_eqb, eqb-true, lt-ltb, le-ltb}
use Rattle.slices.specs.Checks.{Check, first_broken, NoneBroken}
use Rattle.slices.specs.Sizes.{bad_bank}
use Rattle.slices.proofs.Bools.{by_test}
use Rattle.slices.proofs.Checks.{Numbered, none_broken, first_violation}
use Rattle.labels.specs.Lines.{lines_of, word_count}
use Rattle.labels.specs.Labels.{at_each}
use Rattle.labels.specs.internal.Search.{first_line, bad_line, bad_label, Surveyed, Index}
use Rattle.words.specs.Program.{program_of, opcode_of, argument_of}
use Rattle.words.specs.internal.Storing.{stored_in}
use Rattle.words.proofs.Counts.{count_exact, count_over, forms_count}
use Rattle.words.proofs.Storing.{zeros, stored_whole}
use Rattle.assembling.specs.declared.Assembled.{Assembled}
use Rattle.assembling.specs.declared.Refusal.{Refusal}
use Rattle.assembling.specs.declared.Refusal.TheVariants.{BadLine}
use Rattle.std.specs.Prelude.{Result, Ok, Err}
use Rattle.std.specs.Result.{IsErrAnd}
use Rattle.assembling.specs.Assemble.{assemble_checks, fault_of, answer_by, answer_of, bank_after, Assembles}
use Rattle.assembling.specs.internal.Looking.{text_fault, Accepted, Refuses, Looked}

-- a rule at each line is broken first at the first line that breaks it
each_first : (number : ℕ) (f : List ℕ → ℕ → Bool) (ls : List (List ℕ)) (k : ℕ) (rest : List Check) → 1 ≤ k
    → first_broken (at_each number f ls k ++ rest) ≡ cond (eqb (first_line f ls k) 0) (first_broken rest) (number + 256 * first_line f ls k)
unfolding first_broken first_line
each_first number f [] k rest h = refl
each_first number f (l ∷ ls) k rest h =
    by_test (f l k) (λ e. rw (e, ne_eqb k 0 (omega arith))) (λ e. rw e (each_first number f ls (k + 1) rest (omega arith)))

-- the fault of a text by what the searches find
pub fault_is : (t : List ℕ) → text_fault t
    ≡ cond (eqb (bad_line t) 0) (cond (eqb (bad_label t) 0) (cond (ltb 256 (word_count (lines_of t))) 26 0) (25 + 256 * bad_label t)) (24 + 256 * bad_line t)
unfolding text_fault first_broken
fault_is t =
    each_first 24 _ (lines_of t) 1 _ (omega arith)
    ∙ ap (λ (n : ℕ). cond (eqb (bad_line t) 0) n (24 + 256 * bad_line t)) (each_first 25 _ (lines_of t) 1 _ (omega arith))

-- an answer's number and line
answer_told : (t : List ℕ) (number line : ℕ) {f : ℕ} → 0 < number → number < 256 → f ≡ number + 256 * line → (number, line, 0) ≡ answer_by f t
answer_told t number line {f} some low e =
    let a : f % 256 ≡ number = omega arith in
    let b : f / 256 ≡ line = omega arith in
    rw (ne_eqb f 0 (λ z. omega arith), a, b)

module _ {t : List ℕ} where
  pub bad_looked : {k : ℕ} → k ≡ bad_line t → 0 < k → Refuses t (24, k, 0)
  bad_looked {k} e s =
      let f : text_fault t ≡ 24 + 256 * k = fault_is t ∙ rw (ne_eqb (bad_line t) 0 (λ z. omega (arith, e, s, z)), e) in
      record { some = λ z. omega (arith, f, z); answers = answer_told t 24 k (omega arith) (omega arith) f }

  -- what `?` makes of a bad line
  pub line_refused : (r : Result ℕ Refusal) {k : ℕ} (a starts numbers : List ℕ) → IsErrAnd r (λ e. e ≡ BadLine k) → Refuses t (24, k, 0) → Looked t r a starts numbers
  line_refused (Ok n) a starts numbers h l = absurd h
  line_refused (Err e) a starts numbers h l = rw h l

  module _ {count : ℕ} {a : List ℕ} (i : Surveyed t count a) where
    pub fault_looked : {k : ℕ} → k ≡ bad_label t → (bad_label t ≡ 0 → ⊥) → Refuses t (25, k, 0)
    fault_looked {k} e s =
        let f : text_fault t ≡ 25 + 256 * k = fault_is t ∙ rw (eq-eqb (bad_line t) 0 i.good, ne_eqb (bad_label t) 0 s, e) in
        record { some = λ z. omega (arith, f, z); answers = answer_told t 25 k (omega arith) (omega arith) f }

    module _ (z : 0 ≡ bad_label t) where
      pub long_looked : 256 < count → Refuses t (26, 0, 0)
      long_looked h =
          let w : 256 < word_count (lines_of t) = count_over (lines_of t) (rw i.words at h) in
          let f : text_fault t ≡ 26 + 256 * 0 =
          fault_is t ∙ rw (eq-eqb (bad_line t) 0 i.good, eq-eqb (bad_label t) 0 (sym z), lt-ltb 256 (word_count (lines_of t)) w) in
          record { some = λ y. omega (arith, f, y); answers = answer_told t 26 0 (omega arith) (omega arith) f }

      pub good_looked : {starts numbers : List ℕ} → count ≤ 256 → Index t starts numbers → Accepted t count a starts numbers
      good_looked h x =
          let w : count ≡ word_count (lines_of t) = i.words ∙ count_exact (lines_of t) (rw i.words at h) in
          let few : word_count (lines_of t) ≤ 256 = rw w at h in
          record {
            none = fault_is t ∙ rw (eq-eqb (bad_line t) 0 i.good, eq-eqb (bad_label t) 0 (sym z), le-ltb 256 (word_count (lines_of t)) few);
            counted = w;
            ready = record { good = i.good; few = few; noted = i.known; index = x };
          }

-- every rule has a number
each_numbered : (number : ℕ) (f : List ℕ → ℕ → Bool) (ls : List (List ℕ)) (k : ℕ) (rest : List Check) → 0 < number → Numbered rest → Numbered (at_each number f ls k ++ rest)
each_numbered number f [] k rest h r = r
each_numbered number f (l ∷ ls) k rest h r = (h, each_numbered number f ls (k + 1) rest h r)

checks_numbered : (t ops args : List ℕ) → Numbered (assemble_checks t ops args)
checks_numbered t ops args =
    (omega arith, each_numbered 24 _ (lines_of t) 1 _ (omega arith) (each_numbered 25 _ (lines_of t) 1 _ (omega arith) (omega arith, tt)))

-- from the answer and both banks to the whole outcome
pub assembles : (t ops args : List ℕ) {r : Assembled} {ops' args' : List ℕ} → r ≡ answer_of t ops args
    → ops' ≡ bank_after (fault_of t ops args) opcode_of t ops → args' ≡ bank_after (fault_of t ops args) argument_of t args → Assembles t ops args r ops' args'
assembles t ops args {r} {ops'} {args'} e o g =
    record {
      answers = e;
      opcodes = o;
      arguments = g;
      checked = rw told (unfold fault_of in first_violation (assemble_checks t ops args) (checks_numbered t ops args));
      opcodes_kept = λ broken. o ∙ rw (ne_eqb (fault_of t ops args) 0 (fault broken));
      arguments_kept = λ broken. g ∙ rw (ne_eqb (fault_of t ops args) 0 (fault broken));
    }
  where
    numbers_told : (f : ℕ) → (answer_by f t).0 + 256 * (answer_by f t).1 ≡ f
    numbers_told f = by_test (eqb f 0) (λ z. rw z (omega (arith, eqb-true f 0 z))) (λ z. rw z (omega arith))

    told : r.0 + 256 * r.1 ≡ fault_of t ops args
    told = ap (λ (x : Assembled). x.0 + 256 * x.1) e ∙ (unfold answer_of in numbers_told (fault_of t ops args))

    fault : (NoneBroken (assemble_checks t ops args) → ⊥) → fault_of t ops args ≡ 0 → ⊥
    fault broken z = broken (none_broken (assemble_checks t ops args) (checks_numbered t ops args) (unfold fault_of in z))

-- the fault of a call: 1 for a bad bank, else that of the text
bad_fault : (t ops args : List ℕ) → bad_bank ops || bad_bank args ≡ true → fault_of t ops args ≡ 1
unfolding fault_of first_broken
bad_fault t ops args e = rw e

pub good_fault : (t ops args : List ℕ) → bad_bank ops || bad_bank args ≡ false → fault_of t ops args ≡ text_fault t
unfolding fault_of first_broken text_fault
good_fault t ops args e = rw e

module _ (t ops args : List ℕ) where
  refused_banks : bad_bank ops || bad_bank args ≡ true → Assembles t ops args (1, 0, 0) ops args
  refused_banks e =
      let f = bad_fault t ops args e in
      assembles t ops args (unfold answer_of in rw f) (rw f) (rw f)

  pub bad_opcodes : (length ops ≡ 256 → ⊥) → Assembles t ops args (1, 0, 0) ops args
  bad_opcodes h = refused_banks (rw (ne_eqb (length ops) 256 h))

  module _ (h : length ops ≡ 256) where
    pub bad_arguments : (length args ≡ 256 → ⊥) → Assembles t ops args (1, 0, 0) ops args
    bad_arguments g = refused_banks (rw (eq-eqb (length ops) 256 h, ne_eqb (length args) 256 g))

    module _ (g : length args ≡ 256) where
      fault_told : fault_of t ops args ≡ text_fault t
      fault_told = good_fault t ops args (rw (eq-eqb (length ops) 256 h, eq-eqb (length args) 256 g))

      pub refused_text : {r : Assembled} → Refuses t r → Assembles t ops args r ops args
      refused_text l =
          assembles t ops args (unfold answer_of in (l.answers ∙ sym (ap (λ (f : ℕ). answer_by f t) fault_told)))
          (rw (fault_told, ne_eqb (text_fault t) 0 l.some)) (rw (fault_told, ne_eqb (text_fault t) 0 l.some))

      pub filled : {count : ℕ} {a starts numbers ops₁ args₁ ops₂ args₂ : List ℕ} → Accepted t count a starts numbers
          → ops₁ ≡ zeros (length ops) → args₁ ≡ zeros (length args)
          → ops₂ ≡ stored_in opcode_of (program_of t) 0 ops₁ → args₂ ≡ stored_in argument_of (program_of t) 0 args₁
          → Assembles t ops args (0, 0, count) ops₂ args₂
      filled l p q o b =
          let few : length (program_of t) ≤ 256 = unfold program_of in (rw (forms_count (lines_of t) (lines_of t) 0) l.ready.few) in
          assembles t ops args (unfold answer_of in rw (fault_told, l.none, l.counted))
          (rw (fault_told, l.none) (o ∙ (ap (stored_in opcode_of (program_of t) 0) (p ∙ ap zeros h) ∙ stored_whole opcode_of (program_of t) few)))
          (rw (fault_told, l.none) (b ∙ (ap (stored_in argument_of (program_of t) 0) (q ∙ ap zeros g) ∙ stored_whole argument_of (program_of t) few)))
