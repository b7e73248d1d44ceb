-- From the judges of the parts to the judge of a file.
-- Assumes nothing.
use Prim.Native.Nat.{ℕ, ◌*◌, ◌≤◌}
use native.Mathlib.Omega.{arith}
use mathlib.Core.Path.{◌≡◌, refl, sym, ap, ◌∙◌}
use mathlib.Core.Bool.{Bool, true, false, not, cond}
use mathlib.Core.List.{List, [], ◌∷◌}
use lib.ListN.{drop}
use lib.Dec.{eqb}
use Rattle.groups.specs.Fields.{Read, got, refused, and_then, field_in, numbers_in}
use Rattle.groups.specs.internal.Places.{ReadsAs}
use Rattle.groups.proofs.Fields.{field_fits, row_fits}
use Rattle.groups.proofs.Readings.{not_got, came}
use Rattle.rules.specs.Sheet.{Listing}
use Rattle.files.specs.File.{n_field, count_field, least_of, address_fields, byte_fields, listing_of, left_over, at_last, listing_in}
use Rattle.checking.specs.internal.Judges.{last_blank, ends, addresses_walk, lastly, list_walk, Passed, Stopped}
use Rattle.checking.proofs.LeastLast.{least_is}
use Rattle.checking.proofs.ListJudged.{refused_then}

-- what stands behind the addresses, of which n and the numbers are known
abbrev tail_in : (file : List ℕ) (n : ℕ) (xs : List ℕ) → List ℕ → Read Listing
tail_in file n xs after =
    and_then (field_in count_field after) (λ k last.
    and_then (numbers_in (byte_fields (2 * k)) last) (λ rs left.
    at_last file n (listing_of xs rs) left))

-- a refusal is the same, whatever was to be read
refused_same : {A B : Type 0} {p q : ℕ} {f g : List ℕ} → ◌≡◌ {A = Read A} (refused p f) (refused q g) → ◌≡◌ {A = Read B} (refused q g) (refused p f)
refused_same {p = p} {q} {f} {g} e =
    let x : q ≡ p = cc in
    let y : g ≡ f = cc in
    rw (x, y)

record Lastly (b : Bool) (k : ℕ) (list left : List ℕ) (j : ℕ) (rest : List ℕ) : Type 0 where
  not_blank : b ≡ false
  none_left : left ≡ []
  count : k ≡ j
  list_is : list ≡ rest

lastly_got : (file : List ℕ) (b : Bool) (k : ℕ) (list left : List ℕ) {j : ℕ} {rest : List ℕ} → lastly file b k list left ≡ got j rest → Lastly b k list left j rest
lastly_got file true k list left e = not_got e
lastly_got file false k list [] {j} {rest} e = record { not_blank = refl; none_left = refl; count = (let x : k ≡ j = cc in x); list_is = (let y : list ≡ rest = cc in y) }
lastly_got file false k list (x ∷ left) e = not_got e

module _ (file : List ℕ) (n : ℕ) (xs : List ℕ) (b : Bool) (least : (rs : List ℕ) → eqb (least_of (listing_of xs rs)) n ≡ not b) where
  -- what comes last refuses in the one where it does in the other

  by_cases : (L : Listing) (c : Bool) (k : ℕ) (list left : List ℕ) {q : ℕ} {from : List ℕ} → refused q from ≡ lastly file c k list left
      → cond (not c) (left_over L left) (refused 31 file) ≡ refused q from
  by_cases L true k list left d = refused_same d
  by_cases L false k list [] d = not_got d
  by_cases L false k list (y ∷ left) d = refused_same d

  last_refused : (k : ℕ) (list rs left : List ℕ) {q : ℕ} {from : List ℕ} → refused q from ≡ lastly file b k list left → at_last file n (listing_of xs rs) left ≡ refused q from
  unfolding at_last
  last_refused k list rs left e = rw (least rs) (by_cases (listing_of xs rs) b k list left e)

  bytes_refused : (k : ℕ) (list : List ℕ) (r : Read (List ℕ)) {q : ℕ} {from : List ℕ} → refused q from ≡ and_then r (λ rs left. lastly file b k list left)
      → and_then r (λ rs left. at_last file n (listing_of xs rs) left) ≡ refused q from
  bytes_refused k list (got rs left) e = last_refused k list rs left e
  bytes_refused k list (refused p f) e = refused_same e

  count_refused : (r : Read ℕ) {q : ℕ} {from : List ℕ}
      → refused q from ≡ and_then r (λ k list. and_then (numbers_in (byte_fields (2 * k)) list) (λ rs left. lastly file b k list left))
      → and_then r (λ k last. and_then (numbers_in (byte_fields (2 * k)) last) (λ rs left. at_last file n (listing_of xs rs) left)) ≡ refused q from
  count_refused (got k list) e = bytes_refused k list (numbers_in (byte_fields (2 * k)) list) e
  count_refused (refused p f) e = refused_same e

  tail_refused : (bs : List ℕ) {q : ℕ} {from : List ℕ} → refused q from ≡ list_walk file b bs → tail_in file n xs bs ≡ refused q from
  unfolding list_walk
  tail_refused bs e = count_refused (field_in count_field bs) e

  -- and passes where it does

  record Tail (bs : List ℕ) (k : ℕ) (list : List ℕ) : Type 0 where
    bytes : List ℕ
    few : k ≤ 64
    bytes_are : numbers_in (byte_fields (2 * k)) list ≡ got bytes []
    opens : tail_in file n xs bs ≡ got (listing_of xs bytes) []

  tail_put : (bs : List ℕ) (k : ℕ) (list rs : List ℕ) → b ≡ false → field_in count_field bs ≡ got k list → numbers_in (byte_fields (2 * k)) list ≡ got rs [] → Tail bs k list
  unfolding at_last
  tail_put bs k list rs f a d = record { bytes = rs; few = (field_fits count_field bs a).high; bytes_are = d; opens = rw (a, d, least rs, f) }

  tail_same : (bs : List ℕ) {j k : ℕ} {l list rs left : List ℕ} → field_in count_field bs ≡ got j l → numbers_in (byte_fields (2 * j)) l ≡ got rs left
      → Lastly b j l left k list → Tail bs k list
  tail_same bs {j} {k} {l} {list} {rs} {left} a d t =
      let x = t.count in
      let y = t.list_is in
      tail_put bs k list rs t.not_blank (a ∙ rw (x, y)) (rw (← x, ← y) (d ∙ ap (got rs) t.none_left))

  tail_passes : (bs : List ℕ) {k : ℕ} {list : List ℕ} → got k list ≡ list_walk file b bs → Tail bs k list
  unfolding list_walk
  tail_passes bs {k} {list} e =
      let u = came (field_in count_field bs) _ (sym e) in
      let v = came (numbers_in (byte_fields (2 * u.value)) u.left) _ u.second in
      tail_same bs u.first v.first (lastly_got file b u.value u.left v.left v.second)

addresses_read : (r : Read (List ℕ)) {b : Bool} {rest : List ℕ} → got b rest ≡ and_then r (ends false) → (xs : List ℕ) × (r ≡ got xs rest) × (last_blank false xs ≡ b)
addresses_read (got xs left) {b} {rest} e =
    let x : last_blank false xs ≡ b = cc in
    let y : left ≡ rest = cc in
    (xs, ap (got xs) y, x)
addresses_read (refused q from) e = not_got (sym e)

module _ (file : List ℕ) where
  pub n_stops : {q p : ℕ} → ReadsAs file 0 (field_in n_field (drop 0 file)) (refused q (drop p file)) p → Stopped file q p
  unfolding listing_in
  n_stops h = let y = h.reads in record { stops = rw (← y); within = h.within (omega arith) }

  module _ {n addresses : ℕ} (read-n : ReadsAs file 0 (field_in n_field (drop 0 file)) (got n (drop addresses file)) addresses) where
    n_is : field_in n_field file ≡ got n (drop addresses file)
    n_is = sym read-n.reads

    pub addresses_stop : {q p : ℕ} → ReadsAs file addresses (addresses_walk n (drop addresses file)) (refused q (drop p file)) p → Stopped file q p
    unfolding listing_in addresses_walk
    addresses_stop g =
        record {
          stops = rw (n_is, refused_then (numbers_in (address_fields n) (drop addresses file)) (λ xs rest. last_blank false xs) g.reads);
          within = g.within (read-n.within (omega arith));
        }

    module _ {behind : ℕ} {b : Bool} (walked : ReadsAs file addresses (addresses_walk n (drop addresses file)) (got b (drop behind file)) behind) where
      found : (xs : List ℕ) × (numbers_in (address_fields n) (drop addresses file) ≡ got xs (drop behind file)) × (last_blank false xs ≡ b)
      unfolding addresses_walk
      found = addresses_read (numbers_in (address_fields n) (drop addresses file)) walked.reads

      least_found : (rs : List ℕ) → eqb (least_of (listing_of found.0 rs)) n ≡ not b
      least_found rs =
          least_is n found.0 rs (row_fits (address_fields n) (drop addresses file) found.1) (field_fits n_field file n_is).high ∙ ap not found.2

      listing_tail : listing_in file ≡ tail_in file n found.0 (drop behind file)
      unfolding listing_in
      listing_tail = rw (n_is, found.1)

      pub list_stops : {q p : ℕ} → ReadsAs file behind (list_walk file b (drop behind file)) (refused q (drop p file)) p → Stopped file q p
      list_stops i =
          record {
            stops = listing_tail ∙ tail_refused file n found.0 b least_found (drop behind file) i.reads;
            within = i.within (walked.within (read-n.within (omega arith)));
          }

      pub file_passes : {k list : ℕ} → ReadsAs file behind (list_walk file b (drop behind file)) (got k (drop list file)) list → Passed file n addresses k list
      file_passes i =
          let p = tail_passes file n found.0 b least_found (drop behind file) i.reads in
          record {
            numbers = found.0;
            behind = drop behind file;
            bytes = p.bytes;
            few = p.few;
            numbers_at = found.1;
            bytes_at = p.bytes_are;
            opens_to = listing_tail ∙ p.opens;
          }
