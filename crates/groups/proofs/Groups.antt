-- A number, both ways: its groups are read back, and where a number was read its groups stand.
-- Assumes nothing.
use Prim.Native.Nat.{ℕ, zero, suc, ◌+◌, ◌*◌, ◌/◌, ◌%◌, ◌≤◌, ◌<◌}
use native.Mathlib.Omega.{arith}
use mathlib.Core.Path.{◌≡◌, refl, sym, ap, ◌∙◌}
use mathlib.Core.List.{List, [], ◌∷◌, ◌++◌}
use lib.Dec.{eqb, ltb}
use borrow.Author.Tests.{ltb-true, ltb-false, lt-ltb, le-ltb, eqb-false, ne_eqb}
use Rattle.slices.specs.Lists.{Bytes}
use Rattle.slices.proofs.Bools.{by_test}
use Rattle.groups.specs.Groups.{groups_up_to, groups_of, Front, some, none, grouped, number_in}

-- ---- the groups of a number, without their bound

enough : (f g n : ℕ) → n ≤ f → n ≤ g → groups_up_to f n ≡ groups_up_to g n
unfolding groups_up_to
enough zero zero n a b = refl
enough zero (suc g) n a b = rw (lt-ltb n 128 (omega arith))
enough (suc f) zero n a b = rw (lt-ltb n 128 (omega arith))
enough (suc f) (suc g) n a b =
    by_test (ltb n 128)
    (λ e. rw e)
    (λ e. let h = ltb-false n 128 e in rw e (ap (λ (gs : List ℕ). (128 + n % 128) ∷ gs) (enough f g (n / 128) (omega arith) (omega arith))))

pub last_group : (n : ℕ) → n < 128 → groups_of n ≡ n ∷ []
unfolding groups_of groups_up_to
last_group zero l = refl
last_group (suc n) l = rw (lt-ltb (suc n) 128 l)

pub more_groups : (n : ℕ) → 128 ≤ n → groups_of n ≡ (128 + n % 128) ∷ groups_of (n / 128)
unfolding groups_of groups_up_to
more_groups zero l = absurd (omega arith)
more_groups (suc n) l =
    rw (le-ltb (suc n) 128 l)
    (ap (λ (gs : List ℕ). (128 + suc n % 128) ∷ gs) (enough n (suc n / 128) (suc n / 128) (omega arith) (omega arith)))

-- ---- read back

number_upto : (most n : ℕ) → n ≤ most → (rest : List ℕ) → number_in (groups_of n ++ rest) ≡ some n rest
unfolding number_in
number_upto zero n l rest = rw (last_group n (omega arith), lt-ltb n 128 (omega arith))
number_upto (suc most) n l rest =
    by_test (ltb n 128)
    (λ e. rw (last_group n (ltb-true n 128 e), e))
    (λ e.
    let h = ltb-false n 128 e in
    let w : 128 + n % 128 ≡ (128 + n % 128) % 256 = omega arith in
    rw (more_groups n h, le-ltb (128 + n % 128) 128 (omega arith), number_upto most (n / 128) (omega arith) rest, ne_eqb (n / 128) 0 (λ z. omega arith))
    (ap (λ (v : ℕ). some v rest) (omega arith)))

pub read_number : (n : ℕ) (rest : List ℕ) → number_in (groups_of n ++ rest) ≡ some n rest
read_number n rest = number_upto n n (omega arith) rest

-- ---- where one was read

pub not_some {ℓ} : {X : Type ℓ} {v : ℕ} {rest : List ℕ} → none ≡ some v rest → X
not_some e = absurd (let z : ◌≡◌ {A = ℕ} 0 1 = cc in omega arith)

-- a number behind a group, taken apart
record Behind (g : ℕ) (r : Front) (v : ℕ) (rest : List ℕ) : Type 0 where
  value : ℕ
  stands : r ≡ some value rest
  not_zero : value ≡ 0 → ⊥
  whole : g + 128 * value ≡ v

behind : (g : ℕ) (r : Front) {v : ℕ} {rest : List ℕ} → grouped g r ≡ some v rest → Behind g r v rest
behind g none e = not_some e
behind g (some u left) {v} {rest} e =
    by_test (eqb u 0)
    (λ t. not_some (rw t at e))
    (λ t.
    let q : some (g + 128 * u) left ≡ some v rest = rw t at e in
    let y : left ≡ rest = cc in
    record { value = u; stands = ap (some u) y; not_zero = eqb-false u 0 t; whole = (let x : g + 128 * u ≡ v = cc in x) })

-- a byte with its top bit set, and a number behind it that is not 0
group_before : (b u : ℕ) → 128 ≤ b → b < 256 → (u ≡ 0 → ⊥) → groups_of (b % 128 + 128 * u) ≡ b ∷ groups_of u
group_before b u l h z =
    let m : 128 ≤ b % 128 + 128 * u = omega arith in
    let low : 128 + (b % 128 + 128 * u) % 128 ≡ b = omega arith in
    let high : (b % 128 + 128 * u) / 128 ≡ u = omega arith in
    more_groups (b % 128 + 128 * u) m ∙ rw (low, high)

-- one group more in front of a number that is not 0
longer : (b u : ℕ) {v : ℕ} {bs : List ℕ} (rest : List ℕ) → 128 ≤ b → b < 256 → (u ≡ 0 → ⊥) → bs ≡ groups_of u ++ rest → b % 128 + 128 * u ≡ v → b ∷ bs ≡ groups_of v ++ rest
longer b u rest l h z e x =
    ap (λ (l : List ℕ). b ∷ l) e ∙ ap (λ (l : List ℕ). l ++ rest) (sym (group_before b u l h z)) ∙ ap (λ (k : ℕ). groups_of k ++ rest) x

pub number_read : (bs : List ℕ) → Bytes bs → {v : ℕ} {rest : List ℕ} → number_in bs ≡ some v rest → bs ≡ groups_of v ++ rest
unfolding number_in
number_read [] ok e = not_some e
number_read (b ∷ bs) ok {v} {rest} e =
    by_test (ltb b 128)
    (λ t.
    let q : some b bs ≡ some v rest = rw t at e in
    let x : b ≡ v = cc in
    let y : bs ≡ rest = cc in
    rw (← x, ← y, last_group b (ltb-true b 128 t)))
    (λ t.
    let d = behind (b % 128) (number_in bs) (rw t at e) in
    longer b d.value rest (ltb-false b 128 t) (ok 0) d.not_zero (number_read bs (λ i. ok (suc i)) d.stands) d.whole)
