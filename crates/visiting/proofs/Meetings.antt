-- Demands met one after the other, and what one demand may be called.
-- Assumes nothing.
use Rattle.std.proofs.Common.{◌≡◌, ℕ, ◌%◌, Bool, true, false, cond, ◌||◌, List, [], ◌∷◌, ◌++◌, length, get_or, set, sym, refl, ap, ◌∙◌, arith}
use Rattle.rules.proofs.Tests.{absurd_bool}
use Rattle.slices.proofs.Bools.{by_test}
use Rattle.drawings.specs.declared.Cell.{Cell}
use Rattle.drawings.specs.internal.Cells.{cell, packed, seen, merged, has, Progress}
use Rattle.drawings.specs.internal.Demands.{Demand, demand}
use Rattle.drawings.specs.internal.Visits.{met, meet, meet_all, any_open, Meets}

pub met_none : (ws : List ℕ) → length ws ≡ 256 → Meets ws ws [] false
met_none ws l =
    record { after = refl; answers = refl; progress = record { rests = λ _. refl; falls = λ e. absurd_bool (sym e) }; long = l }

-- ---- one after the other

pub progress_both : (c c' : Bool) (x y z : List ℕ) → Progress c x y → Progress c' y z → Progress (c || c') x z
progress_both true c' x y z p q =
    record {
      rests = λ e. absurd_bool e;
      falls = λ _.
          let f = p.falls refl in
          by_test c' (λ t. let g = q.falls t in omega arith) (λ t. rw (q.rests t) f);
    }
progress_both false c' x y z p q = rw (← p.rests refl) q

meet_all_append : (ds es : List Demand) (ws : List ℕ) → meet_all ws (ds ++ es) ≡ meet_all (meet_all ws ds) es
meet_all_append [] es ws = refl
meet_all_append (d ∷ ds) es ws = meet_all_append ds es (meet ws d)

any_open_append : (ds es : List Demand) (ws : List ℕ) → any_open ws (ds ++ es) ≡ any_open ws ds || any_open (meet_all ws ds) es
any_open_append [] es ws = refl
any_open_append (d ∷ ds) es ws =
    by_test (met ws d) (λ q. rw q (any_open_append ds es (meet ws d))) (λ q. rw q)

pub met_both :
    {ws ws' ws'' : List ℕ} {ds es : List Demand} {c c' : Bool} → Meets ws ws' ds c → Meets ws' ws'' es c' → Meets ws ws'' (ds ++ es) (c || c')
met_both {ws} {ws'} {ws''} {ds} {es} {c} {c'} m n =
    record {
      after = n.after ∙ ap (λ (x : List ℕ). meet_all x es) m.after ∙ sym (meet_all_append ds es ws);
      answers =
          rw (m.answers, n.answers, m.after) (sym (any_open_append ds es ws));
      progress = progress_both c c' ws ws' ws'' m.progress n.progress;
      long = n.long;
    }

-- ---- a demand by another name

pub met_as :
    {ws ws' : List ℕ} {a a' : ℕ} {c c' : Cell} {r : Bool} → Meets ws ws' (demand a c ∷ []) r → a ≡ a' → c ≡ c'
    → Meets ws ws' (demand a' c' ∷ []) r
met_as {ws} {ws'} {a} {a'} {c} {c'} {r} m p q = rw (← p, ← q) m

-- a depth is a byte, so 256 is 0
twice : (d : ℕ) → d % 256 % 256 ≡ d % 256
twice d = omega arith

merged_wrapped : (w e d n : ℕ) (v : Bool) → merged w (cell e (d % 256) v n) ≡ merged w (cell e d v n)
unfolding merged packed
merged_wrapped w e d n v = by_test (seen w) (λ q. rw q) (λ q. rw (q, twice d))

pub met_wrapped :
    {ws ws' : List ℕ} {a e d n : ℕ} {v r : Bool} → Meets ws ws' (demand a (cell e (d % 256) v n) ∷ []) r
    → Meets ws ws' (demand a (cell e d v n) ∷ []) r
unfolding meet has
met_wrapped {ws} {ws'} {a} {e} {d} {n} {v} {r} m =
    record {
      after = m.after ∙ ap (λ (x : ℕ). cond (has (get_or ws a 0) (cell e d v n)) ws (set ws a x)) (merged_wrapped (get_or ws a 0) e d n v);
      answers = m.answers;
      progress = m.progress;
      long = m.long;
    }
