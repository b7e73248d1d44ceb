-- What a word of a line can be: a register, a number or a label's name.
-- Assumes nothing.
use Rattle.std.specs.Prelude.{ℕ, suc, ◌+◌, ◌*◌, ◌-◌, Bool, true, false, cond, not, ◌&&◌, ◌||◌, List, [], ◌∷◌, eqb, leb, ltb, length, get_or, take}
use Rattle.spelling.specs.declared.Operand.{Operand}
use Rattle.spelling.specs.declared.Operand.TheVariants.{Register, Number, Name, Other}

-- A to Z and a to z
abbrev pub letter : ℕ → Bool
letter c = (leb 65 c && leb c 90) || (leb 97 c && leb c 122)

-- 0 to 9
abbrev pub figure : ℕ → Bool
figure c = leb 48 c && leb c 57

-- a letter, or, unless only letters are wanted, a figure
abbrev pub in_word : Bool → ℕ → Bool
in_word only c = letter c || (not only && figure c)

-- how many bytes the word at the front of l has
unfoldable pub word_length : Bool → List ℕ → ℕ
word_length only [] = 0
word_length only (c ∷ l) = cond (in_word only c) (suc (word_length only l)) 0

-- the word at the front of l: all letters and figures up to another byte
abbrev pub word_of : List ℕ → List ℕ
word_of l = take (word_length false l) l

-- the value of a hexadecimal digit "of either case", 16 for any other byte
unfoldable pub digit_of : ℕ → ℕ
digit_of c =
    cond (ltb c 48) 16 (cond (leb c 57) (c - 48)
    (cond (ltb c 65) 16 (cond (leb c 70) (c - 55)
    (cond (ltb c 97) 16 (cond (leb c 102) (c - 87) 16)))))

-- a decimal number of three digits, 256 where one is none or the number is over 255
abbrev pub decimal_of : ℕ → ℕ → ℕ → ℕ
decimal_of h t u = cond (ltb 9 h || ltb 9 t || ltb 9 u || ltb 255 (100 * h + 10 * t + u)) 256 (100 * h + 10 * t + u)

-- 02 [1]: "Numbers are decimal, 0 to 255 without leading zeros, or 0x and two hexadecimal digits of either case".
-- The number that a word of n bytes b0, b1, .. is, 256 where it is none: 48 is "0" and 120 "x"
unfoldable pub numeral_of : ℕ → ℕ → ℕ → ℕ → ℕ → ℕ
numeral_of n b0 b1 b2 b3 =
    cond (eqb n 1) (decimal_of 0 0 (digit_of b0))
    (cond (eqb n 2 && not (eqb b0 48)) (decimal_of 0 (digit_of b0) (digit_of b1))
    (cond (eqb n 3 && not (eqb b0 48)) (decimal_of (digit_of b0) (digit_of b1) (digit_of b2))
    (cond (eqb n 4 && eqb b0 48 && eqb b1 120 && ltb (digit_of b2) 16 && ltb (digit_of b3) 16) (16 * digit_of b2 + digit_of b3) 256)))

-- what a word is: a register R0 to R3 (82 is "R"), a number, or the name of "a label of 1 to 12 letters"
unfoldable pub operand_of : List ℕ → Operand
operand_of w =
    cond (eqb (length w) 2 && eqb (get_or w 0 0) 82 && ltb (digit_of (get_or w 1 0)) 4) (Register (digit_of (get_or w 1 0)))
    (cond (ltb (numeral_of (length w) (get_or w 0 0) (get_or w 1 0) (get_or w 2 0) (get_or w 3 0)) 256)
    (Number (numeral_of (length w) (get_or w 0 0) (get_or w 1 0) (get_or w 2 0) (get_or w 3 0)))
    (cond (eqb (length w) (word_length true w) && leb 1 (length w) && leb (length w) 12) Name Other))
