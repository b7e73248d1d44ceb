-- Rules judged one after another: the first that is broken is the answer, and what is kept leaves it to the rules after it.
-- Assumes nothing.
use Rattle.std.proofs.Common.{◌≡◌, ℕ, ◌<◌, Bool, cond, Result, Ok, Err, refl, sym, ap, ◌∙◌, arith}
use Rattle.std.specs.Result.{IsErrAnd}
use Rattle.slices.proofs.Bools.{by_test}
use Rattle.sheets.specs.declared.grounds.Ground.{Ground}
use Rattle.sheets.specs.declared.grounds.Rule.{Rule}
use Rattle.sheets.specs.declared.grounds.Rule.TheVariants as rule
use Rattle.sheets.specs.Grounds.{rule_number, answer_of, of_listing, length_answer}

numbered : (k : Rule) → 0 < rule_number k
numbered rule.BankSizes = omega arith
numbered rule.SheetSize = omega arith
numbered rule.ListSize = omega arith
numbered rule.Blank = omega arith
numbered rule.Routine = omega arith
numbered rule.Start = omega arith
numbered rule.Entry = omega arith
numbered rule.Depth = omega arith
numbered rule.JumpByRegister = omega arith
numbered rule.UnmarkedV = omega arith
numbered rule.PopOrSwap = omega arith
numbered rule.Return = omega arith
numbered rule.LastAddress = omega arith
numbered rule.Callee = omega arith
numbered rule.Need = omega arith
numbered rule.Successor = omega arith

-- 0 stands for no broken rule alone
pub refused : (g : Ground) → answer_of (Err g) ≡ 0 → ⊥
unfolding answer_of
refused g e = let n = numbered g.rule in omega arith

pub kept : answer_of (Ok tt) ≡ 0
unfolding answer_of
kept = refl

-- what the lengths answer: a rule's number, or 0
pub length_number : (k : Rule) {v n : ℕ} → v ≡ rule_number k → length_answer (Err k) ≡ n → v ≡ n
unfolding length_answer
length_number k q e = q ∙ e

pub length_named : (k : Rule) {v : ℕ} → v ≡ rule_number k → v ≡ 0 → ⊥
length_named k q e = let n = numbered k in omega arith

pub unbroken : (r : Result Unit Rule) → ((k : Rule) → r ≡ Err k → ⊥) → length_answer r ≡ 0
unfolding length_answer
unbroken (Ok done) h = refl
unbroken (Err k) h = absurd (h k refl)

-- a rule of the whole listing has place 0
pub length_broken : (k : Rule) → answer_of (Err (of_listing k)) ≡ length_answer (Err k)
unfolding answer_of length_answer
length_broken k = omega arith

pub length_kept : length_answer (Ok tt) ≡ 0
unfolding length_answer
length_kept = refl

-- a broken rule that is passed on is the same rule
pub passed_on : (r : Result Unit Ground) (g : Ground) → IsErrAnd r (λ (k : Ground). k ≡ g) → answer_of r ≡ answer_of (Err g)
passed_on (Ok done) g p = absurd p
passed_on (Err k) g p = ap (λ (x : Ground). answer_of (Err x)) p

-- a rule that was broken: it is the answer, whatever comes after it
pub broken_first : (r : Result Unit Ground) (g : Ground) (b : Bool) (n rest : ℕ) → answer_of (Err g) ≡ cond b n 0 → IsErrAnd r (λ (k : Ground). k ≡ g)
    → answer_of r ≡ cond b n rest
broken_first r g b n rest e p =
    passed_on r g p ∙ by_test b (λ t. rw t (rw t at e)) (λ t. absurd (refused g (rw t at e)))

-- a rule that was kept, and what the rules after it answer
pub kept_first : {x : ℕ} (b : Bool) (n rest : ℕ) → 0 < n → answer_of (Ok tt) ≡ cond b n 0 → x ≡ rest → x ≡ cond b n rest
kept_first {x} b n rest some e after =
    let q : 0 ≡ cond b n 0 = sym kept ∙ e in
    by_test b (λ t. let z : 0 ≡ n = rw t at q in absurd (omega arith)) (λ t. rw t after)
