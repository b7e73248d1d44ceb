-- How many words lines stand for: the count that stops above 256 tells it as far as 256; the addresses noted are those of the labels.
-- Assumes nothing.
use Prim.Native.Nat.{ℕ, zero, suc, ◌+◌, ◌-◌, ◌%◌, ◌≤◌, ◌<◌}
use native.Mathlib.Omega.{arith}
use mathlib.Core.Path.{◌≡◌, refl, ap, ◌∙◌}
use mathlib.Core.List.{List, [], ◌∷◌}
use lib.Dec.{eqb, ltb}
use lib.ListN.{length, get_or, take, length-append}
use borrow.Author.Tests.{ltb-true, ltb-false, eqb-false}
use Rattle.slices.proofs.Bools.{by_test}
use Rattle.std.specs.Prelude.{Option, Some, None}
use Rattle.reading.specs.declared.Fit.{Fit}
use Rattle.labels.specs.Lines.{lines_of, label_of, line_of, size_in, size_of, word_count}
use Rattle.labels.specs.Labels.{same, given_at, address_of}
use Rattle.labels.specs.internal.Search.{first_line, more, count_from}
use Rattle.labels.proofs.Sizes.{matched_row, row_length}
use Rattle.words.specs.Program.{forms_in, forms_from}
use Rattle.words.specs.internal.Storing.{Ready}

-- the count of words and the words: the same up to 256, and both above it
count_is : (ls : List (List ℕ)) (n m : ℕ) → (n ≤ 256 → n ≡ m) → (256 < n → 256 < m)
    → (count_from n ls ≤ 256 → count_from n ls ≡ m + word_count ls) × (256 < count_from n ls → 256 < m + word_count ls)
unfolding count_from word_count
count_is [] n m e h = ((λ l. omega (arith, e l)), (λ l. omega (arith, h l)))
count_is (l ∷ ls) n m e h =
    let r = count_is ls (more n (size_of l)) (m + size_of l)
    (λ b. by_test (ltb 256 n) (λ t. absurd (omega (arith, ltb-true 256 n t, rw t at b))) (λ t. rw t (omega (arith, e (ltb-false 256 n t)))))
    (λ b. by_test (ltb 256 n) (λ t. omega (arith, h (ltb-true 256 n t))) (λ t. omega (arith, e (ltb-false 256 n t), rw t at b))) in
    ((λ b. omega (arith, r.0 b)), (λ b. omega (arith, r.1 b)))

module _ (ls : List (List ℕ)) where
  pub count_exact : count_from 0 ls ≤ 256 → count_from 0 ls ≡ word_count ls
  count_exact h = omega (arith, (count_is ls 0 0 (λ _. refl) (λ l. l)).0 h)

  pub count_over : 256 < count_from 0 ls → 256 < word_count ls
  count_over h = omega (arith, (count_is ls 0 0 (λ _. refl) (λ l. l)).1 h)

  count_few : word_count ls ≤ 256 → count_from 0 ls ≡ word_count ls
  count_few h = by_test (ltb 256 (count_from 0 ls))
      (λ t. absurd (omega (arith, count_over (ltb-true 256 (count_from 0 ls) t))))
      (λ t. count_exact (ltb-false 256 (count_from 0 ls) t))

-- no line is bad: each has a word
good_line : (ls : List (List ℕ)) (k n : ℕ) → 1 ≤ k → first_line (λ l k. eqb (size_of l) 0) ls k ≡ 0 → n < length ls → 0 < size_of (get_or ls n [])
unfolding first_line
good_line [] k n h e b = absurd (omega arith)
good_line (l ∷ ls) k zero h e b =
    by_test (eqb (size_of l) 0) (λ t. absurd (omega (arith, rw t at e))) (λ t. omega (arith, eqb-false (size_of l) 0 t))
good_line (l ∷ ls) k (suc n) h e b =
    by_test (eqb (size_of l) 0) (λ t. absurd (omega (arith, rw t at e))) (λ t. good_line ls (k + 1) n (omega arith) (rw t at e) (omega arith))

-- the words before a line, and with it
words_before : (ls : List (List ℕ)) (n : ℕ) → n < length ls → word_count (take n ls) + size_of (get_or ls n []) ≤ word_count ls
unfolding word_count
words_before [] n h = absurd (omega arith)
words_before (l ∷ ls) zero h = omega arith
words_before (l ∷ ls) (suc n) h = omega (arith, words_before ls n (omega arith))

-- there are no more lines than words before a line
lines_words : (ls : List (List ℕ)) (k n : ℕ) → 1 ≤ k → first_line (λ l k. eqb (size_of l) 0) ls k ≡ 0 → n ≤ length ls → n ≤ word_count (take n ls)
unfolding first_line word_count
lines_words ls k zero h e b = omega arith
lines_words [] k (suc n) h e b = absurd (omega arith)
lines_words (l ∷ ls) k (suc n) h e b =
    by_test (eqb (size_of l) 0) (λ t. absurd (omega (arith, rw t at e)))
    (λ t. omega (arith, eqb-false (size_of l) 0 t, lines_words ls (k + 1) n (omega arith) (rw t at e) (omega arith)))

-- the first line that gives a name is one of the lines
given_within : (name : List ℕ) (ls : List (List ℕ)) (k : ℕ) → 1 ≤ k → given_at name ls k < k + length ls
unfolding given_at
given_within name [] k h = omega arith
given_within name (l ∷ ls) k h =
    by_test (same (label_of l) name) (λ t. rw t (omega arith)) (λ t. rw t (omega (arith, given_within name ls (k + 1) (omega arith))))

-- the address noted for the line that gives a name is the label's
pub address_held : {t addresses starts numbers : List ℕ} {g : ℕ} (name : List ℕ) → Ready t addresses starts numbers → g ≡ given_at name (lines_of t) 1 → (g ≡ 0 → ⊥)
    → get_or addresses (g - 1) 0 ≡ address_of name (lines_of t)
unfolding address_of
address_held {t} {addresses} {starts} {numbers} {g} name r e some =
    let all = lines_of t in
    let n = g - 1 in
    let w : g < 1 + length all = rw (← e) at (given_within name all 1 (omega arith)) in
    let there : n < length all = omega (arith, some) in
    let word : 0 < size_of (get_or all n []) = good_line all 1 n (omega arith) r.good there in
    let low : word_count (take n all) < 256 = omega (arith, words_before all n there, r.few) in
    let few : n < 256 = omega (arith, lines_words all 1 n (omega arith) r.good (omega arith)) in
    r.noted.held n there few
    ∙ (ap (λ (m : ℕ). m % 256) (count_few (take n all) (omega arith))
    ∙ (let q : word_count (take n all) % 256 ≡ word_count (take n all) = omega arith in q ∙ ap (λ (m : ℕ). word_count (take (m - 1) all)) e))

-- a label that no line gives
pub address_none : (name : List ℕ) (all : List (List ℕ)) → 0 ≡ given_at name all 1 → 0 ≡ address_of name all
unfolding address_of word_count
address_none name all e = rw (← e)

-- the forms of a line are as many as its words
forms_length : (m : Option Fit) (l : List ℕ) (all : List (List ℕ)) (at : ℕ) → m ≡ line_of l → length (forms_in m all l at) ≡ size_in m
forms_length (Some f) l all at e = row_length f.row (matched_row l e refl) f.places f.places _ _ at 0
forms_length None l all at e = refl

pub line_length : (l : List ℕ) (all : List (List ℕ)) (at : ℕ) → length (forms_in (line_of l) all l at) ≡ size_of l
unfolding size_of
line_length l all at = forms_length (line_of l) l all at refl

pub forms_count : (all ls : List (List ℕ)) (at : ℕ) → length (forms_from all ls at) ≡ word_count ls
unfolding forms_from word_count
forms_count all [] at = refl
forms_count all (l ∷ ls) at =
    length-append (forms_in (line_of l) all l at) (forms_from all ls (at + size_of l))
    ∙ (let a = line_length l all at in let b = forms_count all ls (at + size_of l) in omega arith)
