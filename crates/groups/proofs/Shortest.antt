-- The groups of a number are the shortest that make it; every number in front is read, is longer than need be, or is cut off.
-- Assumes nothing.
use Prim.Native.Nat.{ℕ, zero, suc, ◌+◌, ◌*◌, ◌/◌, ◌%◌, ◌≤◌, ◌<◌}
use native.Mathlib.Omega.{arith}
use mathlib.Core.Path.{◌≡◌, refl, sym, ap, ◌∙◌, subst}
use mathlib.Core.List.{List, [], ◌∷◌, ◌++◌}
use mathlib.Core.Logic.{◌⊎◌, inl, inr, ⊎_elim}
use lib.ListN.{length}
use lib.Dec.{eqb, ltb}
use borrow.Author.Tests.{ltb-true, ltb-false, lt-ltb, le-ltb, eqb-true, eqb-false}
use Rattle.slices.specs.Lists.{Bytes}
use Rattle.slices.proofs.Bools.{by_test}
use Rattle.groups.specs.Groups.{groups_of, Front, some, none, number_in}
use Rattle.groups.specs.Shortest.{Makes, last, more, Shortest, InFront}
use Rattle.groups.proofs.Groups.{last_group, more_groups, number_read}

makes_upto : (most n : ℕ) → n ≤ most → Makes (groups_of n) n
makes_upto zero n l = rw (last_group n (omega arith)) (last n (omega arith))
makes_upto (suc most) n l =
    by_test (ltb n 128)
    (λ t. rw (last_group n (ltb-true n 128 t)) (last n (ltb-true n 128 t)))
    (λ t.
    let h = ltb-false n 128 t in
    let e : (128 + n % 128) % 128 + 128 * (n / 128) ≡ n = omega arith in
    rw (more_groups n h) (subst (λ (k : ℕ). Makes ((128 + n % 128) ∷ groups_of (n / 128)) k) e (more (128 + n % 128) (omega arith) (omega arith) (makes_upto most (n / 128) (omega arith)))))

-- read as it stands, or longer than need be
abbrev ReadOrLonger : List ℕ → ℕ → List ℕ → Type 0
ReadOrLonger gs v rest =
    ((number_in (gs ++ rest) ≡ some v rest) × (length gs ≡ length (groups_of v)))
    ⊎ ((number_in (gs ++ rest) ≡ none) × (length (groups_of v) < length gs))

-- groups with one more in front
length_more : (b v : ℕ) → (v ≡ 0 → ⊥) → length (groups_of (b % 128 + 128 * v)) ≡ suc (length (groups_of v))
length_more b v z =
    let h : 128 ≤ b % 128 + 128 * v = omega arith in
    let q : (b % 128 + 128 * v) / 128 ≡ v = omega arith in
    ap length (more_groups (b % 128 + 128 * v) h) ∙ ap (λ (k : ℕ). suc (length (groups_of k))) q

length_zero : (b : ℕ) → length (groups_of (b % 128 + 128 * 0)) ≡ 1
length_zero b = ap length (last_group (b % 128 + 128 * 0) (omega arith))

some_group : {gs : List ℕ} {v : ℕ} → Makes gs v → 1 ≤ length gs
some_group (last b l) = omega arith
some_group (more b h l m) = omega arith

judge : {gs : List ℕ} {v : ℕ} (rest : List ℕ) → Makes gs v → ReadOrLonger gs v rest
unfolding number_in
judge rest (last b l) = inl (rw (lt-ltb b 128 l), sym (ap length (last_group b l)))
judge rest (more b {gs} {v} h l m) =
    by_test (eqb v 0)
    (λ t.
    let z = eqb-true v 0 t in
    let long = some_group m in
    inr (
      ⊎_elim (λ r. rw (le-ltb b 128 h, r.0, t)) (λ r. rw (le-ltb b 128 h, r.0)) (judge rest m),
      rw z (let e = length_zero b in omega arith),
    ))
    (λ t.
    let z = eqb-false v 0 t in
    let e = length_more b v z in
    ⊎_elim
    (λ r. inl (rw (le-ltb b 128 h, r.0, t), ap suc r.1 ∙ sym e))
    (λ r. let k = r.1 in inr (rw (le-ltb b 128 h, r.0), omega arith))
    (judge rest m))

pub shortest : (n : ℕ) → Shortest n
shortest n =
    record {
      makes = makes_upto n n (omega arith);
      least = λ gs m. ⊎_elim (λ r. let k = r.1 in omega arith) (λ r. let k = r.1 in omega arith) (judge [] m);
    }

pub in_front : (bs : List ℕ) → Bytes bs → InFront bs
in_front bs ok =
    record {
      shortest = λ gs rest v m e l. rw e (⊎_elim (λ r. r.0) (λ r. let k = r.1 in absurd (omega arith)) (judge rest m));
      longer = λ gs rest v m e l. rw e (⊎_elim (λ r. let k = r.1 in absurd (omega arith)) (λ r. r.0) (judge rest m));
      cut_off = λ no-groups. cut (number_in bs) refl no-groups;
    }
  where
    cut : (r : Front) → number_in bs ≡ r → ((gs rest : List ℕ) (v : ℕ) → Makes gs v → bs ≡ gs ++ rest → ⊥) → number_in bs ≡ none
    cut (some v rest) e no-groups = absurd (no-groups (groups_of v) rest v (shortest v).makes (number_read bs ok e))
    cut none e no-groups = e
