-- The loop that fills the banks and the sheet: the addresses below a hold their numbers, and those of the others stand from `next` on.
-- Assumes nothing.
use Prim.Native.Nat.{ℕ, ◌+◌, ◌*◌, ◌-◌, ◌/◌, ◌%◌, ◌≤◌, ◌<◌}
use native.Mathlib.Omega.{arith}
use native.Mathlib.Nat.{sub-zero}
use mathlib.Core.Path.{◌≡◌, refl, sym, ap, ◌∙◌}
use mathlib.Core.Bool.{true, false}
use mathlib.Core.List.{List, [], ◌∷◌}
use lib.ListN.{length, get_or, set, drop, length-set}
use lib.Dec.{ltb}
use borrow.Author.Tests.{ltb-true, ltb-false}
use Rattle.slices.proofs.Bools.{by_test}
use Rattle.slices.proofs.Filling.{Filled, fill_start, fill_put, fill_two, fill_end}
use Rattle.groups.specs.Fields.{got, numbers_in}
use Rattle.groups.proofs.Rows.{row_ahead, none_ahead}
use Rattle.groups.proofs.Fields.{InFields}
use Rattle.files.specs.File.{address_fields, column, word_column, listing_of}
use Rattle.files.proofs.Columns.{column_length, column_at, sheet_length, sheet_low, sheet_high}
use Rattle.opening.specs.internal.Fills.{TakenIs, Takes, FillsAddresses}
use Rattle.checking.specs.declared.reading.Address.{Address}

-- the numbers xs of an address
abbrev opcode_in : List ℕ → ℕ → ℕ
opcode_in xs a = get_or xs (3 * a) 0

abbrev argument_in : List ℕ → ℕ → ℕ
argument_in xs a = get_or xs (3 * a + 1) 0

abbrev word_in : List ℕ → ℕ → ℕ
word_in xs a = get_or xs (3 * a + 2) 0

pub record FilledTo (file : List ℕ) (n : ℕ) (xs rest : List ℕ) (a next : ℕ) (ops args sheet : List ℕ) : Type 0 where
  pub ahead : numbers_in (address_fields (n - a)) (drop next file) ≡ got (drop (3 * a) xs) rest
  pub opcodes : Filled (column (opcode_in xs) 0 256) ops a
  pub arguments : Filled (column (argument_in xs) 0 256) args a
  pub words : Filled (word_column (word_in xs) 0 256) sheet (2 * a)

pub record Filling (file : List ℕ) (at n a next : ℕ) (ops args sheet : List ℕ) : Type 0 where
  pub ops_long : length ops ≡ 256
  pub args_long : length args ≡ 256
  pub sheet_long : length sheet ≡ 512
  pub filled : (xs rest : List ℕ) → numbers_in (address_fields n) (drop at file) ≡ got xs rest → FilledTo file n xs rest a next ops args sheet

pub fill_starts : (file : List ℕ) (at n : ℕ) (ops args sheet : List ℕ) → length ops ≡ 256 → length args ≡ 256 → length sheet ≡ 512 → Filling file at n 0 at ops args sheet
fill_starts file at n ops args sheet o g s =
    record {
      ops_long = o;
      args_long = g;
      sheet_long = s;
      filled = λ xs rest e.
          record {
            ahead = rw (sub-zero n) e;
            opcodes = fill_start (o ∙ sym (column_length (opcode_in xs) 0 256));
            arguments = fill_start (g ∙ sym (column_length (argument_in xs) 0 256));
            words = fill_start (s ∙ sym (sheet_length (word_in xs) 0 256));
          };
    }

-- the numbers of address a are taken, and those of the others stand behind them
record Turn (file : List ℕ) (n : ℕ) (xs rest : List ℕ) (a : ℕ) (t : Address × ℕ) : Type 0 where
  is : TakenIs file (opcode_in xs a) (argument_in xs a) (word_in xs a) (drop t.1 file) t
  ahead : numbers_in (address_fields (n - (a + 1))) (drop t.1 file) ≡ got (drop (3 * (a + 1)) xs) rest

turn_put : (file : List ℕ) (k : ℕ) (xs rest : List ℕ) (a j : ℕ) (t : Address × ℕ) (o g w : ℕ) (mid : List ℕ) → TakenIs file o g w mid t → get_or xs (3 * a + 0) 0 ≡ o
    → argument_in xs a ≡ g → word_in xs a ≡ w → numbers_in (address_fields k) mid ≡ got (drop (3 * a + 3) xs) rest → j ≡ 3 * a + 3
    → TakenIs file (opcode_in xs a) (argument_in xs a) (word_in xs a) (drop t.1 file) t × (numbers_in (address_fields k) (drop t.1 file) ≡ got (drop j xs) rest)
turn_put file k xs rest a j t o g w mid i x y z b q =
    let first : opcode_in xs a ≡ get_or xs (3 * a + 0) 0 = ap (λ (m : ℕ). get_or xs m 0) (omega arith) in (
      record {
        opcode = i.opcode ∙ sym (first ∙ x);
        argument = i.argument ∙ sym y;
        word = i.word ∙ sym z;
        next = refl;
      },
      ap (numbers_in (address_fields k)) i.next ∙ b ∙ ap (λ (m : ℕ). got (drop m xs) rest) (sym q),
    )

module _ (file : List ℕ) (n : ℕ) (xs rest : List ℕ) (a next : ℕ) (t : Address × ℕ) (e : numbers_in (address_fields (n - a)) (drop next file) ≡ got (drop (3 * a) xs) rest) where
  three : (zs : List ℕ) → InFields (address_fields 1) zs → (P : List ℕ → Type 0) → ((o g w : ℕ) → P (o ∷ g ∷ w ∷ [])) → P zs
  three (o ∷ g ∷ w ∷ []) f P h = h o g w
  three [] f P h = absurd f
  three (o ∷ []) f P h = absurd f.2
  three (o ∷ g ∷ []) f P h = absurd f.2.2
  three (o ∷ g ∷ w ∷ x ∷ zs) f P h = absurd f.2.2.2

  turn_some : a < n → Takes file next true t → Turn file n xs rest a t
  turn_some l k =
      let s = row_ahead (address_fields 1) (n - a) (n - (a + 1)) (drop next file) xs (3 * a) rest (omega arith) e in
      let made : (zs : List ℕ) → InFields (address_fields 1) zs → numbers_in (address_fields 1) (drop next file) ≡ got zs s.mid
      → ((d : ℕ) → d < 3 → get_or xs (3 * a + d) 0 ≡ get_or zs d 0) → Turn file n xs rest a t =
      (λ zs f. three zs f
      (λ (ys : List ℕ). numbers_in (address_fields 1) (drop next file) ≡ got ys s.mid → ((d : ℕ) → d < 3 → get_or xs (3 * a + d) 0 ≡ get_or ys d 0) → Turn file n xs rest a t)
      (λ o g w r v.
      let p = turn_put file (n - (a + 1)) xs rest a (3 * (a + 1)) t o g w s.mid (k.some refl o g w s.mid r) (v 0 (omega arith)) (v 1 (omega arith)) (v 2 (omega arith)) s.others (omega arith) in
      record { is = p.0; ahead = p.1 })) in
      made s.here s.fit s.reads s.numbers

  turn_none : n ≤ a → Takes file next false t → Turn file n xs rest a t
  turn_none l k =
      let s = none_ahead (address_fields 1) (n - a) (drop next file) xs (3 * a) rest (omega arith) e in
      let z : n - (a + 1) ≡ 0 = omega arith in
      let p = turn_put file (n - (a + 1)) xs rest a (3 * (a + 1)) t 0 0 0 (drop next file) (k.none refl) (s.numbers 0) (s.numbers 1) (s.numbers 2) (rw z s.others) (omega arith) in
      record { is = p.0; ahead = p.1 }

  turn : Takes file next (ltb a n) t → Turn file n xs rest a t
  turn k =
      by_test (ltb a n)
      (λ s. turn_some (ltb-true a n s) (rw s at k))
      (λ s. turn_none (ltb-false a n s) (rw s at k))

pub fill_goes : {file : List ℕ} {at n a next : ℕ} {ops args sheet : List ℕ} (t : Address × ℕ) (low high : ℕ) → Filling file at n a next ops args sheet → a < 256 → Takes file next (ltb a n) t
    → low ≡ t.0.word % 256 → high ≡ t.0.word / 256
    → Filling file at n (a + 1) t.1 (set ops a t.0.opcode) (set args a t.0.argument) (set (set sheet (2 * a) low) (2 * a + 1) high)
fill_goes {file} {at} {n} {a} {next} {ops} {args} {sheet} t low high f h k low_is high_is =
    record {
      ops_long = length-set ops a t.0.opcode ∙ f.ops_long;
      args_long = length-set args a t.0.argument ∙ f.args_long;
      sheet_long = length-set (set sheet (2 * a) low) (2 * a + 1) high ∙ length-set sheet (2 * a) low ∙ f.sheet_long;
      filled = λ xs rest e.
          let p = f.filled xs rest e in
          let u = turn file n xs rest a next t p.ahead k in
          let lo = column_length (opcode_in xs) 0 256 in
          let lg = column_length (argument_in xs) 0 256 in
          let lw = sheet_length (word_in xs) 0 256 in
          record {
            ahead = u.ahead;
            opcodes = fill_put p.opcodes (omega arith) (u.is.opcode ∙ sym (column_at (opcode_in xs) 0 256 a a h (omega arith)));
            arguments = fill_put p.arguments (omega arith) (u.is.argument ∙ sym (column_at (argument_in xs) 0 256 a a h (omega arith)));
            words = fill_two a p.words (omega arith) (low_is ∙ ap (λ (m : ℕ). m % 256) u.is.word ∙ sym (sheet_low (word_in xs) 0 256 a (2 * a) a h (omega arith) refl))
                (high_is ∙ ap (λ (m : ℕ). m / 256) u.is.word ∙ sym (sheet_high (word_in xs) 0 256 a (2 * a + 1) a h (omega arith) refl));
          };
    }

pub fill_ends : {file : List ℕ} {at n a next : ℕ} {ops args sheet : List ℕ} → Filling file at n a next ops args sheet → 256 ≤ a → FillsAddresses file at n ops args sheet
unfolding listing_of
fill_ends f h xs rest e rs =
    let p = f.filled xs rest e in
    let lo = column_length (opcode_in xs) 0 256 in
    let lg = column_length (argument_in xs) 0 256 in
    let lw = sheet_length (word_in xs) 0 256 in
    let o = fill_end p.opcodes (omega arith) in
    let g = fill_end p.arguments (omega arith) in
    let s = fill_end p.words (omega arith) in
    rw (o, g, s)
