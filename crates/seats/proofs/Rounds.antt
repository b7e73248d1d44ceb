-- The seat that is found is the first that goes from the given one on, counted modulo the seats; where none is found none goes.
-- Assumes nothing.
use mathlib.Core.Path.{◌≡◌, sym, ap, ◌∙◌}
use mathlib.Core.Bool.{Bool, true, false}
use Prim.Native.Nat.{ℕ, zero, suc, ◌+◌, ◌%◌, ◌<◌}
use native.Mathlib.Nat.{add-zero, mod-lt, mod_self, mod-eq_of_lt, mod-add-mod}
use native.Mathlib.Omega.{arith}
use lib.Dec.{eqb}
use borrow.Author.Tests.{eqb-true, eqb-false}
use Rattle.std.specs.Prelude.{Some, None}
use Rattle.slices.proofs.Bools.{by_test}
use Rattle.seats.specs.Turn.{seat_after, first_from, FirstToGo}
use Rattle.seats.proofs.FairTurns.{reach, finds}

pub after_is : (n i : ℕ) → i < n → seat_after n i ≡ (i + 1) % n
after_is n i h =
    by_test (eqb (i + 1) n)
    (λ e. let q : i + 1 ≡ n = eqb-true (i + 1) n e in rw (e, q) (sym (mod_self n)))
    (λ e.
    let q = eqb-false (i + 1) n e in
    let l : i + 1 < n = omega arith in
    rw (e, mod-eq_of_lt l))

-- the first of k seats
record FirstOf (goes : ℕ → Bool) (n k from i : ℕ) : Type 0 where
  pub behind : ℕ
  pub in_round : behind < k
  pub lands : i ≡ (from + behind) % n
  pub able_to_go : goes i ≡ true
  pub none_before : (d : ℕ) → d < behind → goes ((from + d) % n) ≡ false

-- one seat further
shift : (from d : ℕ) → from + 1 + d ≡ from + suc d
shift from d = omega arith

before_first : (goes : ℕ → Bool) (n from b : ℕ) → goes (from % n) ≡ false → ((d : ℕ) → d < b → goes ((from + 1 + d) % n) ≡ false)
    → (d : ℕ) → d < suc b → goes ((from + d) % n) ≡ false
before_first goes n from b e f zero h = rw (add-zero from) e
before_first goes n from b e f (suc d) h = rw (← shift from d) (f d (omega arith))

first_of : (goes : ℕ → Bool) (n : ℕ) → 0 < n → (k from i : ℕ) → first_from goes n (from % n) k ≡ Some i → FirstOf goes n k from i
unfolding first_from
first_of goes n p zero from i e = absurd (let z : ◌≡◌ {A = ℕ} 0 1 = cc in omega arith)
first_of goes n p (suc k) from i e =
    by_test (goes (from % n))
    (λ q.
    let f : Some (from % n) ≡ Some i = rw (first_from, q) at e in
    let h : from % n ≡ i = cc in
    record { behind = 0; in_round = omega arith; lands = rw (add-zero from) (sym h); able_to_go = rw (← h) q; none_before = λ d l. absurd (omega arith) })
    (λ q.
    let a : seat_after n (from % n) ≡ (from + 1) % n = after_is n (from % n) (mod-lt from p) ∙ mod-add-mod from n 1 in
    let r : first_from goes n ((from + 1) % n) k ≡ Some i = rw (first_from, q, a) at e in
    let f = first_of goes n p k (from + 1) i r in
    record {
      behind = suc f.behind;
      in_round = omega (arith, f.in_round);
      lands = f.lands ∙ ap (λ (d : ℕ). d % n) (shift from f.behind);
      able_to_go = f.able_to_go;
      none_before = before_first goes n from f.behind q f.none_before;
    })

pub found_first : (goes : ℕ → Bool) (n from i : ℕ) → 0 < n → first_from goes n (from % n) n ≡ Some i → FirstToGo goes n from i
found_first goes n from i p e =
    let f = first_of goes n p n from i e in
    record { behind = f.behind; in_round = f.in_round; lands = f.lands; able_to_go = f.able_to_go; none_before = f.none_before }

pub none_found : (goes : ℕ → Bool) (n from : ℕ) → first_from goes n (from % n) n ≡ None → (i : ℕ) → i < n → goes i ≡ false
none_found goes n from e i h =
    by_test (goes i)
    (λ q.
    let p : 0 < n = omega arith in
    let x = reach n (from % n) i (mod-lt from p) h in
    let f = finds goes n n x.far (from % n) (ap goes x.lands ∙ q) x.below in
    absurd (let g = sym e ∙ f.is in let z : ◌≡◌ {A = ℕ} 0 1 = cc in omega arith))
    (λ q. q)
