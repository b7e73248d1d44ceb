-- Texts and decimal numbers as bytes in ASCII.
-- Assumes nothing.
use Rattle.std.specs.Prelude.{ℕ, zero, suc, ◌+◌, ◌-◌, ◌*◌, ◌/◌, ◌%◌, ◌≤◌, ◌<◌, ◌≡◌, List, [], ◌∷◌, ◌++◌, get_or}
use Prim.Native.Char.{code}
use Prim.Native.String.{String, [] as []ˢ, ◌∷◌ as ◌∷ˢ◌}
use Rattle.pages.specs.Page.{Page, Written}

-- a text as the codes of its characters
abbrev pub ascii : String → List ℕ
ascii []ˢ = []
ascii (c ∷ˢ s) = code c ∷ ascii s

-- 01: "numbers are decimal". The last digit of n: 48 is the code of "0"
abbrev pub digit : ℕ → ℕ
digit n = 48 + n % 10

-- the digits of a number, none of 0: those of a tenth of it, and then the last. `most` bounds their number
unfoldable pub digits : ℕ → ℕ → List ℕ
digits zero n = []
digits (suc most) zero = []
digits (suc most) (suc n) = digits most (suc n / 10) ++ (digit (suc n) ∷ [])

-- at least one digit, also of 0; no more than n stand before it
unfoldable pub decimal : ℕ → List ℕ
decimal n = digits n (n / 10) ++ (digit n ∷ [])

-- a number of 32 bits has at most ten digits
abbrev pub most_digits : ℕ
most_digits = 10

-- what a row of digits is read as, behind a number v already read
abbrev pub read_on : ℕ → List ℕ → ℕ
read_on v [] = v
read_on v (x ∷ xs) = read_on (10 * v + (x - 48)) xs

abbrev pub value : List ℕ → ℕ
value = read_on 0

-- each byte is the code of a digit
abbrev pub AllDigits : List ℕ → Type 0
AllDigits [] = Unit {0}
AllDigits (x ∷ xs) = (48 ≤ x) × (x < 58) × AllDigits xs

-- what a number written in decimal leaves
pub record DecimalWritten (n : ℕ) (before after : Page) : Type 0 where
  pub text : Written most_digits (decimal n) before after
  -- which are digits, read as n
  pub all_digits : AllDigits (decimal n)
  pub reads_back : value (decimal n) ≡ n
  -- and only 0 begins with a "0": 49 is the code of "1"
  pub no_leading_zero : 0 < n → 49 ≤ get_or (decimal n) 0 0
