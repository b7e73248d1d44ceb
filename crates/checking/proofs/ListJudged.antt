-- The number of routines, their bytes, and what comes last: the first refusal is the answer.
-- Assumes nothing.
use Prim.Native.Nat.{ℕ, ◌*◌, ◌≤◌, ◌<◌}
use native.Mathlib.Omega.{arith}
use mathlib.Core.Path.{◌≡◌, sym, ap}
use mathlib.Core.Bool.{Bool, true, false}
use mathlib.Core.List.{List}
use lib.ListN.{length, drop, drop_of_length-le}
use lib.Seq.{drop-cons}
use Rattle.groups.specs.Fields.{Read, got, refused, and_then, field_in, numbers_in}
use Rattle.groups.specs.internal.Places.{ReadsAs}
use Rattle.groups.proofs.Readings.{not_got}
use Rattle.files.specs.File.{count_field, byte_fields}
use Rattle.checking.specs.internal.Judges.{bytes_end, list_walk}

-- a reading that hands on what it read is refused where that is
pub refused_then : {A B : Type 0} (r : Read A) (f : A → List ℕ → B) {q : ℕ} {from : List ℕ} → refused q from ≡ and_then r (λ a rest. got (f a rest) rest) → r ≡ refused q from
refused_then (got a rest) f e = not_got e
refused_then (refused p g) f {q} {from} e =
    let x : p ≡ q = cc in
    let y : g ≡ from = cc in
    rw (x, y)

record Found {A : Type 0} (r : Read A) (rest : List ℕ) : Type 0 where
  value : A
  is : r ≡ got value rest

got_then : {A : Type 0} (r : Read A) {v : ℕ} {rest : List ℕ} → got v rest ≡ and_then r (λ a left. got 0 left) → Found r rest
got_then (got a left) {v} {rest} e = let x : left ≡ rest = cc in record { value = a; is = ap (got a) x }
got_then (refused q from) e = not_got (sym e)

module _ (file : List ℕ) (at : ℕ) (b : Bool) where
  -- an answer of the judge
  abbrev Answers : Read ℕ → ℕ → Type 0
  Answers answer place = ReadsAs file at (list_walk file b (drop at file)) answer place

  pub count_stops : {q p : ℕ} → ReadsAs file at (field_in count_field (drop at file)) (refused q (drop p file)) p → Answers (refused q (drop p file)) p
  unfolding list_walk
  count_stops h = let y = h.reads in record { reads = rw (← y); within = h.within }

  module _ {k list : ℕ} (read : ReadsAs file at (field_in count_field (drop at file)) (got k (drop list file)) list) where
    counted : field_in count_field (drop at file) ≡ got k (drop list file)
    counted = sym read.reads

    pub bytes_stop : {q p : ℕ} → ReadsAs file list (bytes_end (2 * k) (drop list file)) (refused q (drop p file)) p → Answers (refused q (drop p file)) p
    unfolding list_walk bytes_end
    bytes_stop g =
        record {
          reads = rw (counted, refused_then (numbers_in (byte_fields (2 * k)) (drop list file)) (λ a rest. 0) g.reads);
          within = λ i. g.within (read.within i);
        }

    module _ {left : ℕ} (g : ReadsAs file list (bytes_end (2 * k) (drop list file)) (got 0 (drop left file)) left) where
      found : Found (numbers_in (byte_fields (2 * k)) (drop list file)) (drop left file)
      unfolding bytes_end
      found = got_then (numbers_in (byte_fields (2 * k)) (drop list file)) g.reads

      -- the last address is blank: where the file begins
      pub not_least : b ≡ true → Answers (refused 31 (drop 0 file)) 0
      unfolding list_walk
      not_least t = record { reads = rw (counted, found.is, t); within = λ i. omega arith }

      pub bytes_follow : b ≡ false → left < length file → Answers (refused 31 (drop left file)) left
      unfolding list_walk
      bytes_follow t l = record { reads = rw (counted, found.is, t, drop-cons file left 0 l); within = λ i. omega arith }

      pub list_passes : b ≡ false → length file ≤ left → Answers (got k (drop list file)) list
      unfolding list_walk
      list_passes t l = record { reads = rw (counted, found.is, t, drop_of_length-le file l); within = read.within }
