-- A run of a list: it is refused, or its banks are the list's own and it is the run of its trace.
-- Assumes nothing.
use Prim.Native.Nat.{ℕ}
use native.Mathlib.Omega.{arith}
use mathlib.Core.Path.{◌≡◌, refl, sym, ◌∙◌}
use mathlib.Core.List.{List}
use mathlib.Core.Bool.{Bool, true, false, cond, ◌||◌}
use Rattle.std.specs.Prelude.{Result, Ok, Err}
use Rattle.model.specs.Run.{Call, Outcome, reported, run_of, bad_banks, refusal_of, refused_of, call_of}
use Rattle.model.specs.Step.{Program}
use Rattle.model.specs.declared.Refusal.{Refusal}
use Rattle.model.specs.declared.Refusal.TheVariants.{BadBank}
use Rattle.slices.proofs.Bools.{neither}
use Rattle.slices.specs.Sizes.{bad_bank}
use Rattle.rules.specs.RunLists.{Snapshot, Buffer, own, foreign, ListedRun, lent, call_in, outcome_of, run_setting, run_machine}
use Rattle.rules.proofs.Tests.{absurd_bool}

own_bank : (b : Buffer) (l : List ℕ) → bad_bank (lent b l) ≡ false → b ≡ own
own_bank own l e = refl
own_bank (foreign k q) l e = absurd_bool (sym q ∙ e)

not_given : (t : Bool) (y : Refusal) (v : Result (Unit {0}) Refusal) → cond t (Err y) v ≡ Ok tt → t ≡ false
not_given true y v e = absurd (let z : ◌≡◌ {A = ℕ} 0 1 = cc in omega arith)
not_given false y v e = refl

good_banks : (c : Call) → refusal_of c ≡ Ok tt → bad_banks c ≡ false
unfolding refusal_of
good_banks c e = not_given (bad_banks c) BadBank _ e

-- what a run that is not refused reports and leaves
abbrev pub ran_from : Program → ListedRun → Snapshot → Outcome
ran_from p r w = reported (run_of (run_setting p r) r.budget (run_machine r w))

module _ (p : Program) (r : ListedRun) (w : Snapshot) where
  pub refused_call : (y : Refusal) → refusal_of (call_in p r w) ≡ Err y → outcome_of p r w ≡ refused_of y (call_in p r w)
  unfolding outcome_of call_of
  refused_call y e = rw e

  pub passed_call : refusal_of (call_in p r w) ≡ Ok tt → outcome_of p r w ≡ ran_from p r w
  unfolding outcome_of call_of
  passed_call e =
      let g = good_banks (call_in p r w) e in
      let g₁ = neither (bad_bank (lent r.opcodes p.opcodes) || bad_bank (lent r.arguments p.arguments) || bad_bank (lent r.ram w.ram)) _ g in
      let g₂ = neither (bad_bank (lent r.opcodes p.opcodes) || bad_bank (lent r.arguments p.arguments)) _ g₁.0 in
      let g₃ = neither (bad_bank (lent r.opcodes p.opcodes)) _ g₂.0 in
      let o = own_bank r.opcodes _ g₃.0 in
      let a = own_bank r.arguments _ g₃.1 in
      let d = own_bank r.ram _ g₂.1 in
      let k = own_bank r.stack _ g₁.1 in
      rw e (rw (o, a, d, k))
