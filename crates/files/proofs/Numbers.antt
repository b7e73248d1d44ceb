-- The numbers of a file and the listing that they make: each is read off the other.
-- Assumes nothing.
use Prim.Native.Nat.{ℕ, zero, suc, ◌+◌, ◌*◌, ◌≤◌, ◌<◌}
use native.Mathlib.Omega.{arith}
use mathlib.Core.Path.{◌≡◌, refl, sym, ap, ◌∙◌}
use mathlib.Core.List.{List, [], ◌∷◌}
use lib.ListN.{length, get_or, get_or-eq_default}
use lib.Dec.{ltb}
use borrow.Author.Tests.{ltb-true, ltb-false}
use Rattle.slices.specs.Lists.{Bytes}
use Rattle.groups.proofs.Fields.{InFields}
use Rattle.rules.specs.Sheet.{Listing, word}
use Rattle.slices.proofs.Bools.{by_test}
use Rattle.files.specs.File.{address_numbers, address_fields, byte_fields, word_column, listing_of}
use Rattle.files.proofs.Columns.{column_all, sheet_length, sheet_low, sheet_high}

-- ---- three numbers an address

-- behind the first three
pub skip : (o g w : ℕ) (ys : List ℕ) (i j : ℕ) → j ≡ 3 + i → get_or (o ∷ g ∷ w ∷ ys) j 0 ≡ get_or ys i 0
skip o g w ys i j e = let q : j ≡ suc (suc (suc i)) = omega arith in ap (λ (k : ℕ). get_or (o ∷ g ∷ w ∷ ys) k 0) q

pub record InRange (xs : List ℕ) (i : ℕ) : Type 0 where
  pub opcode : get_or xs (3 * i) 0 ≤ 255
  pub argument : get_or xs (3 * i + 1) 0 ≤ 255
  pub word : get_or xs (3 * i + 2) 0 ≤ 65535

pub fields_range : (n : ℕ) (xs : List ℕ) → InFields (address_fields n) xs → (i : ℕ) → InRange xs i
fields_range zero [] h i = record { opcode = omega arith; argument = omega arith; word = omega arith }
fields_range (suc n) (o ∷ g ∷ w ∷ ys) h zero = record { opcode = h.1; argument = h.2.1; word = h.2.2.1 }
fields_range (suc n) (o ∷ g ∷ w ∷ ys) h (suc i) =
    let r = fields_range n ys h.2.2.2 i in
    record {
      opcode = rw (skip o g w ys (3 * i) (3 * suc i) (omega arith)) r.opcode;
      argument = rw (skip o g w ys (3 * i + 1) (3 * suc i + 1) (omega arith)) r.argument;
      word = rw (skip o g w ys (3 * i + 2) (3 * suc i + 2) (omega arith)) r.word;
    }
fields_range zero (x ∷ xs) h i = absurd h
fields_range (suc n) [] h i = absurd h
fields_range (suc n) (o ∷ []) h i = absurd h.2
fields_range (suc n) (o ∷ g ∷ []) h i = absurd h.2.2

pub fields_length : (n : ℕ) (xs : List ℕ) → InFields (address_fields n) xs → length xs ≡ 3 * n
fields_length zero [] h = refl
fields_length (suc n) (o ∷ g ∷ w ∷ ys) h = let e = fields_length n ys h.2.2.2 in omega arith
fields_length zero (x ∷ xs) h = absurd h
fields_length (suc n) [] h = absurd h
fields_length (suc n) (o ∷ []) h = absurd h.2
fields_length (suc n) (o ∷ g ∷ []) h = absurd h.2.2

-- a listing has these three numbers at address k
pub record Has (L : Listing) (k : ℕ) (o g w : ℕ) : Type 0 where
  pub opcode : get_or L.program.opcodes k 0 ≡ o
  pub argument : get_or L.program.arguments k 0 ≡ g
  pub word_is : word L k ≡ w

abbrev pub HasAt : Listing → ℕ → List ℕ → ℕ → Type 0
HasAt L k xs i = Has L k (get_or xs (3 * i) 0) (get_or xs (3 * i + 1) 0) (get_or xs (3 * i + 2) 0)

-- the numbers of a listing that has them are these
pub own_numbers : (L : Listing) (a n : ℕ) (xs : List ℕ) → InFields (address_fields n) xs → ((i k : ℕ) → k ≡ a + i → HasAt L k xs i) → address_numbers L a n ≡ xs
unfolding address_numbers
own_numbers L a zero [] h has = refl
own_numbers L a (suc n) (o ∷ g ∷ w ∷ ys) h has =
    let now = has 0 a (omega arith) in
    rw (now.opcode, now.argument, now.word_is)
    (ap (λ (l : List ℕ). o ∷ g ∷ w ∷ l) (own_numbers L (suc a) n ys h.2.2.2 (λ i k e.
    let r = has (suc i) k (omega arith) in
    record {
      opcode = r.opcode ∙ skip o g w ys (3 * i) (3 * suc i) (omega arith);
      argument = r.argument ∙ skip o g w ys (3 * i + 1) (3 * suc i + 1) (omega arith);
      word_is = r.word_is ∙ skip o g w ys (3 * i + 2) (3 * suc i + 2) (omega arith);
    })))
own_numbers L a zero (x ∷ xs) h has = absurd h
own_numbers L a (suc n) [] h has = absurd h
own_numbers L a (suc n) (o ∷ []) h has = absurd h.2
own_numbers L a (suc n) (o ∷ g ∷ []) h has = absurd h.2.2

-- and a listing has its own numbers
pub has_own : (L : Listing) (a n i k : ℕ) → i < n → k ≡ a + i → HasAt L k (address_numbers L a n) i
unfolding address_numbers
has_own L a zero i k l e = absurd (omega arith)
has_own L a (suc n) zero k l e = let q : k ≡ a = omega arith in rw q (record { opcode = refl; argument = refl; word_is = refl })
has_own L a (suc n) (suc i) k l e =
    let r = has_own L (suc a) n i k (omega arith) (omega arith) in
    let ys = address_numbers L (suc a) n in
    let o = get_or L.program.opcodes a 0 in
    let g = get_or L.program.arguments a 0 in
    let w = word L a in
    record {
      opcode = r.opcode ∙ sym (skip o g w ys (3 * i) (3 * suc i) (omega arith));
      argument = r.argument ∙ sym (skip o g w ys (3 * i + 1) (3 * suc i + 1) (omega arith));
      word_is = r.word_is ∙ sym (skip o g w ys (3 * i + 2) (3 * suc i + 2) (omega arith));
    }

pub numbers_length : (L : Listing) (a n : ℕ) → length (address_numbers L a n) ≡ 3 * n
unfolding address_numbers
numbers_length L a zero = refl
numbers_length L a (suc n) = let e = numbers_length L (suc a) n in omega arith

pub word_low : (L : Listing) (a : ℕ) → Bytes L.sheet → word L a ≤ 65535
unfolding word
word_low L a ok = let h = ok (2 * a) in let k = ok (2 * a + 1) in omega arith

pub numbers_fit : (L : Listing) (a n : ℕ) → Bytes L.program.opcodes → Bytes L.program.arguments → Bytes L.sheet
    → InFields (address_fields n) (address_numbers L a n)
unfolding address_numbers
numbers_fit L a zero o g s = record {}
numbers_fit L a (suc n) o g s =
    let x = o a in
    let y = g a in
    (omega arith, omega arith, (omega arith, omega arith, (omega arith, word_low L a s, numbers_fit L (suc a) n o g s)))

-- ---- the bytes of the routine list

pub list_fit : (m : ℕ) (rs : List ℕ) → length rs ≡ m → Bytes rs → InFields (byte_fields m) rs
list_fit zero [] e ok = record {}
list_fit (suc m) (r ∷ rs) e ok = let x = ok 0 in (omega arith, omega arith, list_fit m rs (omega arith) (λ i. ok (suc i)))
list_fit zero (r ∷ rs) e ok = absurd (omega arith)
list_fit (suc m) [] e ok = absurd (omega arith)

pub list_length : (m : ℕ) (rs : List ℕ) → InFields (byte_fields m) rs → length rs ≡ m
list_length zero [] h = refl
list_length (suc m) (r ∷ rs) h = ap suc (list_length m rs h.2)
list_length zero (r ∷ rs) h = absurd h
list_length (suc m) [] h = absurd h

pub list_bytes : (m : ℕ) (rs : List ℕ) → InFields (byte_fields m) rs → Bytes rs
list_bytes zero [] h i = omega arith
list_bytes (suc m) (r ∷ rs) h zero = let x = h.1 in omega arith
list_bytes (suc m) (r ∷ rs) h (suc i) = list_bytes m rs h.2 i
list_bytes zero (r ∷ rs) h i = absurd h
list_bytes (suc m) [] h i = absurd h

-- ---- the listing of the numbers

module _ (xs rs : List ℕ) (short : length xs ≤ 768) where
  past : (c i : ℕ) → 256 ≤ i → get_or xs (3 * i + c) 0 ≡ 0
  past c i h = let far : length xs ≤ 3 * i + c = omega arith in get_or-eq_default xs 0 far

  word_of : (a : ℕ) → word (listing_of xs rs) a ≡ get_or xs (3 * a + 2) 0
  unfolding word listing_of
  word_of a =
      by_test (ltb a 256)
      (λ t.
      let h = ltb-true a 256 t in
      rw (sheet_low (λ i. get_or xs (3 * i + 2) 0) 0 256 a (2 * a) a h (omega arith) refl, sheet_high (λ i. get_or xs (3 * i + 2) 0) 0 256 a (2 * a + 1) a h (omega arith) refl)
      (omega arith))
      (λ t.
      let h = ltb-false a 256 t in
      let c = sheet_length (λ i. get_or xs (3 * i + 2) 0) 0 256 in
      let s = word_column (λ i. get_or xs (3 * i + 2) 0) 0 256 in
      let low : length s ≤ 2 * a = omega arith in
      let high : length s ≤ 2 * a + 1 = omega arith in
      rw (get_or-eq_default s 0 low, get_or-eq_default s 0 high, past 2 a h))

  pub listing_has : (i k : ℕ) → k ≡ 0 + i → HasAt (listing_of xs rs) k xs i
  unfolding listing_of
  listing_has i k e =
      let q : k ≡ i = omega arith in
      rw q
      (record {
        opcode = column_all (λ a. get_or xs (3 * a) 0) 256 (λ a h. let far : length xs ≤ 3 * a = omega arith in get_or-eq_default xs 0 far) i;
        argument = column_all (λ a. get_or xs (3 * a + 1) 0) 256 (past 1) i;
        word_is = word_of i;
      })
