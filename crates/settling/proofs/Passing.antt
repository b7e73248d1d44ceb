-- A pass visits every address once, and passes are made until one changes nothing. The weight of all words falls with each pass but the
-- last, so they come to an end; none of the demands was open in the last, so none is.
-- Assumes nothing.
use Prim.Native.Nat.{ℕ, suc, ◌+◌, ◌-◌, ◌≤◌, ◌<◌}
use native.Mathlib.Omega.{arith}
use mathlib.Core.Path.{◌≡◌, refl, sym, ap, ◌∙◌, subst}
use mathlib.Core.Logic.{◌≢◌}
use mathlib.Core.List.{List}
use mathlib.Core.Bool.{Bool, true, false, cond, ◌||◌}
use lib.ListN.{length, replicate, length-set, length-replicate}
use lib.Dec.{eqb}
use borrow.Author.Tests.{eqb-true, eqb-false}
use Rattle.model.specs.Step.{Program}
use Rattle.rules.proofs.Tests.{absurd_bool}
use Rattle.slices.proofs.Bools.{by_test, neither}
use Rattle.drawings.specs.internal.Cells.{packed, total, Progress}
use Rattle.drawings.specs.internal.Demands.{entry_cell, demands_at}
use Rattle.drawings.specs.internal.Impossible.{Refutes, Settles}
use Rattle.drawings.specs.internal.Visits.{visited, is_open, start, Visits, begin, visit, Meets, Passes}
use Rattle.visiting.proofs.Meetings.{progress_both}

-- the address at a place of a pass
abbrev pub turn_of : Bool → ℕ → ℕ
turn_of up i = cond up i (255 - i)

pub record PassInvariant (p : Program) (up : Bool) (ws₀ ws : List ℕ) (changed : Bool) (i : ℕ) : Type 0 where
  pub within : i ≤ 256
  pub long : length ws ≡ 256
  pub visits : Visits p ws
  pub progress : Progress changed ws₀ ws
  pub closed : changed ≡ false → (j : ℕ) → j < i → is_open p ws₀ (turn_of up j) ≡ false

pub pass_start : {p : Program} {up : Bool} {ws : List ℕ} → Visits p ws → length ws ≡ 256 → PassInvariant p up ws ws false 0
pass_start v l =
    record {
      within = omega arith;
      long = l;
      visits = v;
      progress = record { rests = λ _. refl; falls = λ e. absurd_bool (sym e) };
      closed = λ _ j h. absurd (omega arith);
    }

visits_on : (p : Program) (ws ws' : List ℕ) (a : ℕ) (r : Bool) → Visits p ws → Meets ws ws' (demands_at p ws a) r → Visits p ws'
unfolding visited
visits_on p ws ws' a r v m = subst (Visits p) (sym m.after) (visit v a)

open_is : (p : Program) (ws ws' : List ℕ) (a : ℕ) (r : Bool) → Meets ws ws' (demands_at p ws a) r → r ≡ is_open p ws a
unfolding is_open
open_is p ws ws' a r m = m.answers

pub pass_on :
    {p : Program} {up : Bool} {ws₀ ws ws' : List ℕ} {changed r : Bool} {a i : ℕ} → PassInvariant p up ws₀ ws changed i → i < 256
    → a ≡ turn_of up i → Meets ws ws' (demands_at p ws a) r → PassInvariant p up ws₀ ws' (changed || r) (i + 1)
pass_on {p} {up} {ws₀} {ws} {ws'} {changed} {r} {a} {i} v h e m =
    record {
      within = omega arith;
      long = m.long;
      visits = visits_on p ws ws' a r v.visits m;
      progress = progress_both changed r ws₀ ws ws' v.progress m.progress;
      closed = λ f j l.
          let n = neither changed r f in
          by_test (eqb j i)
          (λ q.
          let same : ws ≡ ws₀ = v.progress.rests n.0 in
          let here : is_open p ws a ≡ false = sym (open_is p ws ws' a r m) ∙ n.1 in
          rw (eqb-true j i q, ← e, ← same) here)
          (λ q. let ne : j ≢ i = eqb-false j i q in v.closed n.0 j (omega arith));
    }

-- each address has its turn
its_turn : (up : Bool) (a : ℕ) → a < 256 → turn_of up (turn_of up a) ≡ a
its_turn true a h = refl
its_turn false a h = omega arith

turn_low : (up : Bool) (a : ℕ) → a < 256 → turn_of up a < 256
turn_low true a h = h
turn_low false a h = omega arith

pub pass_end : {p : Program} {up : Bool} {ws₀ ws : List ℕ} {changed : Bool} {i : ℕ} → PassInvariant p up ws₀ ws changed i → 256 ≤ i → Passes p ws₀ ws changed
pass_end {p} {up} {ws₀} {ws} {changed} {i} v h =
    record {
      visits = v.visits;
      progress = v.progress;
      long = v.long;
      closed = λ f a l.
          let t = turn_low up a l in
          subst (λ (x : ℕ). is_open p ws₀ x ≡ false) (its_turn up a l) (v.closed f (turn_of up a) (omega arith));
    }

-- ---- passes until one changes nothing

pub record SettleInvariant (p : Program) (ws : List ℕ) (changed : Bool) : Type 0 where
  pub long : length ws ≡ 256
  pub visits : Visits p ws
  pub closed : changed ≡ false → (a : ℕ) → a < 256 → is_open p ws a ≡ false

-- what falls with each pass
abbrev pub left : List ℕ → Bool → ℕ
left ws changed = cond changed (suc (total ws)) 0

pub start_long : length start ≡ 256
unfolding start
start_long = length-set (replicate 256 0) 0 (packed (entry_cell 0 0)) ∙ length-replicate {A = ℕ} 256 0

pub start_visits : {p : Program} {ws : List ℕ} → ws ≡ start → Visits p ws × (length ws ≡ 256)
start_visits {p} {ws} e = (subst (Visits p) (sym e) begin, ap length e ∙ start_long)

pub settle_less : {p : Program} {ws ws' : List ℕ} {changed r : Bool} → changed ≡ true → Passes p ws ws' r → left ws' r < left ws changed
settle_less {p} {ws} {ws'} {changed} {r} e m =
    rw e (by_test r (λ q. rw q (let f = m.progress.falls q in omega arith)) (λ q. rw q (omega arith)))

pub settle_on : {p : Program} {ws ws' : List ℕ} {r : Bool} → Passes p ws ws' r → SettleInvariant p ws' r
settle_on {p} {ws} {ws'} {r} m =
    record { long = m.long; visits = m.visits; closed = λ f a l. rw (m.progress.rests f) (m.closed f a l) }

pub settle_end : {p : Program} {ws : List ℕ} {changed : Bool} → SettleInvariant p ws changed → changed ≡ false → Settles p ws true
settle_end v e = record { settled = λ _. record { visits = v.visits; closed = v.closed e }; none = λ f. absurd_bool f }

pub settle_fails : {p : Program} {ws : List ℕ} {found : Bool} → Refutes p found → found ≡ true → Settles p ws false
settle_fails r e = record { settled = λ f. absurd_bool (sym f); none = λ _. r.none e }
