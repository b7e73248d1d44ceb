-- The digits of a number: what the last one adds, that they are digits, read as the number, that no 0 leads, and how many there are.
-- Assumes nothing.
use mathlib.Core.Path.{◌≡◌, refl, sym, ap, ◌∙◌}
use mathlib.Core.List.{List, [], ◌∷◌, ◌++◌}
use Prim.Native.Nat.{ℕ, zero, suc, ◌+◌, ◌-◌, ◌*◌, ◌/◌, ◌<◌, ◌≤◌}
use native.Mathlib.Omega.{arith}
use lib.ListN.{length, get_or, length-append}
use lib.Dec.{ltb}
use borrow.Author.Tests.{ltb-true, ltb-false}
use Rattle.slices.proofs.Bools.{by_test}
use Rattle.pages.specs.Text.{digit, digits, decimal, most_digits, read_on, value, AllDigits, DecimalWritten}
use Rattle.pages.specs.Page.{Page, write_of}

none : (most : ℕ) → digits most 0 ≡ []
unfolding digits
none zero = refl
none (suc most) = refl

-- any bound of at least the number gives the same digits
enough : (f g n : ℕ) → n ≤ f → n ≤ g → digits f n ≡ digits g n
unfolding digits
enough zero g zero a b = sym (none g)
enough zero g (suc n) a b = absurd (omega arith)
enough (suc f) g zero a b = sym (none g)
enough (suc f) zero (suc n) a b = absurd (omega arith)
enough (suc f) (suc g) (suc n) a b =
    ap (λ (ds : List ℕ). ds ++ (digit (suc n) ∷ [])) (enough f g (suc n / 10) (omega arith) (omega arith))

-- where a number is not 0, its digits are its decimal
digits_decimal : (most n : ℕ) → 0 < n → n ≤ most → digits most n ≡ decimal n
unfolding digits decimal
digits_decimal most zero a b = absurd (omega arith)
digits_decimal zero (suc n) a b = absurd (omega arith)
digits_decimal (suc most) (suc n) a b =
    ap (λ (ds : List ℕ). ds ++ (digit (suc n) ∷ [])) (enough most (suc n) (suc n / 10) (omega arith) (omega arith))

pub one_digit : (n : ℕ) → n < 10 → decimal n ≡ digit n ∷ []
unfolding decimal
one_digit n l = let e : n / 10 ≡ 0 = omega arith in rw (e, none n)

pub more_digits : (n : ℕ) → 10 ≤ n → decimal n ≡ decimal (n / 10) ++ (digit n ∷ [])
unfolding decimal
more_digits n l =
    ap (λ (ds : List ℕ). ds ++ (digit n ∷ [])) (digits_decimal n (n / 10) (omega arith) (omega arith))

read_last : (v : ℕ) (ds : List ℕ) (x : ℕ) → read_on v (ds ++ (x ∷ [])) ≡ 10 * read_on v ds + (x - 48)
read_last v [] x = refl
read_last v (d ∷ ds) x = read_last (10 * v + (d - 48)) ds x

-- a tenth and the last digit make up the number
made_up : (n v : ℕ) → v ≡ n / 10 → 10 * v + (digit n - 48) ≡ n
made_up n v e = omega arith

value_digits : (most n : ℕ) → n ≤ most → value (digits most n) ≡ n
unfolding digits
value_digits zero zero l = refl
value_digits (suc most) zero l = refl
value_digits zero (suc n) l = absurd (omega arith)
value_digits (suc most) (suc n) l =
    read_last 0 (digits most (suc n / 10)) (digit (suc n)) ∙ made_up (suc n) _ (value_digits most (suc n / 10) (omega arith))

-- the digits of n are read as n
value_decimal : (n : ℕ) → value (decimal n) ≡ n
unfolding decimal
value_decimal n = read_last 0 (digits n (n / 10)) (digit n) ∙ made_up n _ (value_digits n (n / 10) (omega arith))

digit_behind : (xs : List ℕ) (n : ℕ) → AllDigits xs → AllDigits (xs ++ (digit n ∷ []))
digit_behind [] n a = (omega arith, omega arith, tt)
digit_behind (x ∷ xs) n (a, b, d) = (a, b, digit_behind xs n d)

all_in : (most n : ℕ) → AllDigits (digits most n)
unfolding digits
all_in zero n = tt
all_in (suc most) zero = tt
all_in (suc most) (suc n) = digit_behind (digits most (suc n / 10)) (suc n) (all_in most (suc n / 10))

all_digits : (n : ℕ) → AllDigits (decimal n)
unfolding decimal
all_digits n = digit_behind (digits n (n / 10)) n (all_in n (n / 10))

-- what leads still leads with more behind it
leads_on : (ds ys : List ℕ) → 49 ≤ get_or ds 0 0 → 49 ≤ get_or (ds ++ ys) 0 0
leads_on [] ys l = absurd (omega arith)
leads_on (d ∷ ds) ys l = l

-- a digit behind those of n leads only where n is 0
leads_of : (most n x : ℕ) → (n ≡ 0 → 49 ≤ x) → (0 < n → 49 ≤ get_or (digits most n) 0 0) → 49 ≤ get_or (digits most n ++ (x ∷ [])) 0 0
leads_of most zero x here front = rw (none most) (here refl)
leads_of most (suc n) x here front = leads_on (digits most (suc n)) (x ∷ []) (front (omega arith))

leads : (most n : ℕ) → 0 < n → n ≤ most → 49 ≤ get_or (digits most n) 0 0
unfolding digits
leads zero zero a b = absurd (omega arith)
leads (suc most) zero a b = absurd (omega arith)
leads zero (suc n) a b = absurd (omega arith)
leads (suc most) (suc n) a b =
    leads_of most (suc n / 10) (digit (suc n)) (λ e. omega arith) (λ l. leads most (suc n / 10) l (omega arith))

-- the first digit of a number that is not 0 is at least "1"
no_leading_zero : (n : ℕ) → 0 < n → 49 ≤ get_or (decimal n) 0 0
no_leading_zero n l = rw (← digits_decimal n n l (omega arith)) (leads n n l (omega arith))

-- ten, and k times ten times that
abbrev pub tens : ℕ → ℕ
tens zero = 10
tens (suc k) = 10 * tens k

pub digits_below : (k n : ℕ) → n < tens k → length (decimal n) ≤ suc k
digits_below zero n l = rw (one_digit n l) (omega arith)
digits_below (suc k) n l =
    by_test (ltb n 10)
    (λ e. rw (one_digit n (ltb-true n 10 e)) (omega arith))
    (λ e.
    let h = digits_below k (n / 10) (omega arith) in
    rw (more_digits n (ltb-false n 10 e), length-append (decimal (n / 10)) (digit n ∷ [])) (omega arith))

-- a number of 32 bits has at most ten digits
pub decimal_short : (n : ℕ) → n < 4294967296 → length (decimal n) ≤ most_digits
decimal_short n l = let h : n < 10000000000 = omega arith in digits_below 9 n h

-- a number of 32 bits written in decimal
pub decimal_written : (n : ℕ) → n < 4294967296 → (p : Page) {q : Page} → q ≡ write_of (decimal n) p → DecimalWritten n p q
decimal_written n l p e =
    record {
      text = record { left = e; short = decimal_short n l };
      all_digits = all_digits n;
      reads_back = value_decimal n;
      no_leading_zero = no_leading_zero n;
    }
