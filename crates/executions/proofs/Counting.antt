-- Counting one address at a time gives the counters of the whole row, and they add up to its length.
-- Assumes nothing.
use Prim.Native.Nat.{ℕ, zero, suc, ◌+◌, ◌<◌}
use mathlib.Core.Path.{◌≡◌, refl, sym, ap, ◌∙◌}
use mathlib.Core.List.{List, [], ◌∷◌}
use native.Mathlib.Nat.{le_of_suc-le-suc, not-suc-le-zero, add-zero, zero-add}
use native.Mathlib.Omega.{arith}
use lib.Dec.{eqb}
use lib.ListN.{length, get_or, set, replicate, length-set, length-replicate, get_or-replicate}
use lib.Seq.{get_or-set_same, get_or-set_other, ext_get_or}
use borrow.Author.Tests.{eqb-true, eqb-false}
use Rattle.slices.specs.Lists.{total_of}
use Rattle.slices.specs.Sizes.{bank_size}
use Rattle.slices.proofs.Bools.{by_test}
use Rattle.executions.specs.Executed.{times_in, table_from, counters_of}
use Rattle.executions.specs.internal.Addresses.{Addresses}

-- counters after one more execution of an address
abbrev pub counted : List ℕ → ℕ → List ℕ
counted c a = set c a (get_or c a 0 + 1)

-- counters after a row of addresses
unfoldable pub count_all : List ℕ → List ℕ → List ℕ
count_all [] c = c
count_all (a ∷ l) c = count_all l (counted c a)

pub count_none : (c : List ℕ) → count_all [] c ≡ c
unfolding count_all
count_none c = refl

pub count_one : (a : ℕ) (l c : List ℕ) → count_all (a ∷ l) c ≡ count_all l (counted c a)
unfolding count_all
count_one a l c = refl

count_length : (l c : List ℕ) → length (count_all l c) ≡ length c
unfolding count_all
count_length [] c = refl
count_length (a ∷ l) c = count_length l (counted c a) ∙ length-set c a (get_or c a 0 + 1)

count_adds : (l c : List ℕ) (i : ℕ) → i < length c → get_or (count_all l c) i 0 ≡ get_or c i 0 + times_in l i
unfolding count_all times_in
count_adds [] c i h = sym (add-zero (get_or c i 0))
count_adds (a ∷ l) c i h =
    count_adds l (counted c a) i (rw (length-set c a (get_or c a 0 + 1)) h)
    ∙ by_test (eqb a i)
    (λ e.
    let q : a ≡ i = eqb-true a i e in
    rw (e, q, get_or-set_same c i (get_or c i 0 + 1) 0 h) (omega arith))
    (λ e.
    rw (e, get_or-set_other c a i (get_or c a 0 + 1) 0 (λ q. eqb-false a i e (sym q))))

table_length : (f : ℕ → ℕ) (a n : ℕ) → length (table_from f a n) ≡ n
table_length f a zero = refl
table_length f a (suc n) = ap suc (table_length f (suc a) n)

pub table_at : (f : ℕ → ℕ) (a n i : ℕ) → i < n → get_or (table_from f a n) i 0 ≡ f (a + i)
table_at f a zero i h = absurd (not-suc-le-zero h)
table_at f a (suc n) zero h = ap f (sym (add-zero a))
table_at f a (suc n) (suc i) h = table_at f (suc a) n i (le_of_suc-le-suc h) ∙ ap f (omega arith)

-- from 0 on, counting gives how often each address stands in the row
pub counts_are : (l : List ℕ) → count_all l (replicate bank_size 0) ≡ counters_of l
unfolding counters_of
counts_are l =
    let zeros : List ℕ = replicate bank_size 0 in
    let z : length zeros ≡ bank_size = length-replicate {A = ℕ} bank_size 0 in
    let w : length (count_all l zeros) ≡ bank_size = count_length l zeros ∙ z in
    ext_get_or 0 (count_all l zeros) (table_from (times_in l) 0 bank_size) (w ∙ sym (table_length (times_in l) 0 bank_size))
    (λ i h.
    let b : i < bank_size = omega arith in
    count_adds l zeros i (omega arith)
    ∙ rw (get_or-replicate {A = ℕ} bank_size i 0 0 b, zero-add (times_in l i))
    (sym (table_at (times_in l) 0 bank_size i b ∙ ap (times_in l) (zero-add i))))

pub counter_at : (l : List ℕ) (a : ℕ) → a < bank_size → get_or (counters_of l) a 0 ≡ times_in l a
unfolding counters_of
counter_at l a h = table_at (times_in l) 0 bank_size a h ∙ ap (times_in l) (zero-add a)

pub counters_length : (l : List ℕ) → length (counters_of l) ≡ bank_size
unfolding counters_of
counters_length l = table_length (times_in l) 0 bank_size

-- ---- the sum

sum_set : (c : List ℕ) (a : ℕ) → a < length c → total_of (counted c a) ≡ total_of c + 1
sum_set [] a h = absurd (not-suc-le-zero h)
sum_set (x ∷ c) zero h = omega arith
sum_set (x ∷ c) (suc a) h = let i : total_of (counted c a) ≡ total_of c + 1 = sum_set c a (le_of_suc-le-suc h) in omega arith

sum_all : (l c : List ℕ) → length c ≡ bank_size → Addresses l → total_of (count_all l c) ≡ total_of c + length l
unfolding count_all
sum_all [] c h b = sym (add-zero (total_of c))
sum_all (a ∷ l) c h b =
    let k : a < length c = rw h b.0 in
    let s : total_of (counted c a) ≡ total_of c + 1 = sum_set c a k in
    let t : total_of (count_all l (counted c a)) ≡ total_of (counted c a) + length l = sum_all l (counted c a) (length-set c a (get_or c a 0 + 1) ∙ h) b.1 in
    omega arith

-- [3]: "they add up to its steps"
pub counters_add_up : (l : List ℕ) → Addresses l → total_of (counters_of l) ≡ length l
counters_add_up l b =
    ap total_of (sym (counts_are l))
    ∙ sum_all l (replicate bank_size 0) (length-replicate {A = ℕ} bank_size 0) b
    ∙ zero-add (length l)
