-- Ascending numbers that are all found among other ascending numbers: each stands there no earlier than here, so there are no fewer there, and
-- the number at the same place there is no larger. Where each are found among the others, they are the same.
-- Assumes nothing.
use Prim.Native.Nat.{ℕ, zero, suc, ◌≤◌, ◌<◌}
use native.Mathlib.Omega.{arith}
use mathlib.Core.Path.{◌≡◌, ap}
use lib.Dec.{eqb, ltb}
use borrow.Author.Tests.{eqb-true, eqb-false, ltb-true, ltb-false}
use Rattle.slices.proofs.Bools.{by_test}

abbrev pub Ascending : (n : ℕ) → (ℕ → ℕ) → Type 0
Ascending n e = (r q : ℕ) → r < q → q < n → e r < e q

-- x is one of n numbers e
pub record Found (n : ℕ) (e : ℕ → ℕ) (x : ℕ) : Type 0 where
  pub number : ℕ
  pub in_list : number < n
  pub is : e number ≡ x

-- n ascending numbers e, each of which is one of n' ascending numbers e'
pub record Within (n n' : ℕ) (e e' : ℕ → ℕ) : Type 0 where
  pub ascends : Ascending n e
  pub ascends' : Ascending n' e'
  pub found : (r : ℕ) → r < n → Found n' e' (e r)

-- the smaller number stands first
ascending_order : (n : ℕ) (e : ℕ → ℕ) → Ascending n e → (r q : ℕ) → r < n → e r < e q → r < q
ascending_order n e up r q h k =
    by_test (ltb r q) (ltb-true r q)
    (λ t.
    let b : q ≤ r = ltb-false r q t in
    by_test (eqb q r) (λ i. absurd (let z : e q ≡ e r = ap e (eqb-true q r i) in omega arith))
    (λ i.
    let ne = eqb-false q r i in
    let lt : e q < e r = up q r (omega arith) h in
    absurd (omega arith)))

-- no number stands at two places
pub ascending_one : (n : ℕ) (e : ℕ → ℕ) → Ascending n e → (r q : ℕ) → r < n → q < n → e r ≡ e q → r ≡ q
ascending_one n e up r q h k i =
    by_test (ltb r q) (λ t. absurd (let lt = up r q (ltb-true r q t) k in omega arith))
    (λ t.
    by_test (ltb q r) (λ u. absurd (let lt = up q r (ltb-true q r u) h in omega arith))
    (λ u.
    let a = ltb-false r q t in
    let b = ltb-false q r u in
    omega arith))

module _ {n n' : ℕ} {e e' : ℕ → ℕ} (w : Within n n' e e') where
  -- the number with number r here has no lower number there
  no_earlier : (r : ℕ) (h : r < n) → r ≤ (w.found r h).number
  no_earlier zero h = omega arith
  no_earlier (suc r) h =
      let h' : r < n = omega arith in
      let b = no_earlier r h' in
      let x = w.found r h' in
      let y = w.found (suc r) h in
      let up : e r < e (suc r) = w.ascends r (suc r) (omega arith) h in
      let up' : e' x.number < e' y.number = rw (x.is, y.is) up in
      let lt : x.number < y.number = ascending_order n' e' w.ascends' x.number y.number x.in_list up' in
      omega arith

  pub no_more : n ≤ n'
  no_more =
      by_test (ltb n' n)
      (λ t.
      let h : n' < n = ltb-true n' n t in
      let a = no_earlier n' h in
      let b = (w.found n' h).in_list in
      absurd (omega arith))
      (ltb-false n' n)

  pub no_larger : (r : ℕ) → r < n → e' r ≤ e r
  no_larger r h =
      let b = no_earlier r h in
      let x = w.found r h in
      let i = x.is in
      by_test (eqb r x.number) (λ t. let z : e' r ≡ e' x.number = ap e' (eqb-true r x.number t) in omega arith)
      (λ t.
      let ne = eqb-false r x.number t in
      let lt : e' r < e' x.number = w.ascends' r x.number (omega arith) x.in_list in
      omega arith)
