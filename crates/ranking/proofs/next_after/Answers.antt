-- The leader of the addresses passed is the definition's first.
use mathlib.Core.Path.{◌≡◌, sym, ap, ◌∙◌}
use native.Mathlib.Omega.{arith}
use Prim.Native.Nat.{ℕ, ◌<◌, ◌≤◌}
use mathlib.Core.List.{List}
use lib.ListN.{length}
use Rattle.std.specs.Option.{unwrap_or}
use Rattle.slices.specs.Sizes.{bank_size}
use Rattle.ranking.specs.Busier.{busier, is_executed}
use Rattle.ranking.specs.internal.Selection.{none, first_below}
use Rattle.ranking.proofs.Scanning.{lead_starts, lead_goes, lead_ends, none_known, some_known}
use Rattle.ranking.proofs.next_after.Goals as goal
use Rattle.ranking.proofs.next_after.Goals.{At-loop-a}

pub loop-a-init : goal.loop-a-init
loop-a-init c = lead_starts _ c.requires _

pub loop-a-preserved : goal.loop-a-preserved
loop-a-preserved c =
    let h : c.loop-a.a < bank_size = omega (arith, c.requires, c.loop-a-test.true) in
    let g = lead_goes c.args.counters.now c.requires c.unwrap_or-address.result c.loop-a.invariant h in
    rw (c.leader-best.ensures, c.count_at.ensures) g

abbrev first : List ℕ → ℕ → ℕ
first s last = first_below (busier s) (is_executed s) last bank_size

first_is : (c : At-loop-a) → length c.args.counters.now ≤ c.loop-a.a → c.loop-a.best.address ≡ first c.args.counters.now (unwrap_or c.args.last none)
first_is c e =
    let s = c.args.counters.now in
    let h : bank_size ≤ c.loop-a.a = omega (arith, c.requires, e) in
    lead_ends s c.requires c.unwrap_or-address.result c.loop-a.invariant h ∙ ap (first s) c.unwrap_or-address.ensures

pub returns-then-best-eq-ADDRESSES : goal.returns-then-best-eq-ADDRESSES
returns-then-best-eq-ADDRESSES c =
    none_known _ (sym (first_is (goal.at.returns-then-best-eq-ADDRESSES c).At-loop-a c.loop-a-test.false) ∙ c.if-best-eq-ADDRESSES.true)

pub returns : goal.returns
returns c = some_known _ (first_is (goal.at.returns c).At-loop-a c.loop-a-test.false) c.if-best-eq-ADDRESSES.false
