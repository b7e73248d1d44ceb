-- The loop's invariant is that what is left of the search is the search; each need is one of its laws.
use mathlib.Core.Path.{◌≡◌, sym, ◌∙◌}
use Prim.Native.Nat.{◌+◌, ◌-◌, ◌*◌}
use native.Mathlib.Omega.{arith}
use Rattle.slices.specs.Lists.{mapped}
use Rattle.run_numbers.specs.Runs.{state_of}
use Rattle.scheduling.specs.internal.Search.{goes_by}
use Rattle.scheduling.proofs.Finding.{goes_told, search_goes, search_finds, search_ends}
use Rattle.scheduling.proofs.search.next_seat.Goals as goal
use Rattle.scheduling.proofs.search.next_seat.Goals.{After-can_go}

-- the seat that was asked goes, or does not, by its answer
answered : (c : After-can_go)
    → c.can_go.result ≡ goes_by c.args.opcodes.now c.args.lengths.1
    (mapped state_of c.args.seats.0) c.args.seats.1
    c.loop-asked.i
answered c =
    let a = c.args in
    let i = c.loop-asked.i in
    let b : 256 * i + 256 - 256 * i ≡ 256 = omega arith in
    goes_told a.opcodes.now a.lengths.1 (mapped state_of a.seats.0) a.seats.1 i _ _ _ _ b c.state_at-s.ensures.0 c.load-opcode.ensures c.can_go.ensures

pub returns-then-can_go : goal.returns-then-can_go
returns-then-can_go c =
    search_finds c.loop-asked.invariant (omega arith) (sym (answered (goal.at.returns-then-can_go c).After-can_go) ∙ c.if-can_go.true)

pub loop-asked-preserved : goal.loop-asked-preserved
loop-asked-preserved c =
    search_goes c.loop-asked.invariant _ _ c.seat_after-i.ensures (omega arith) (sym (answered (goal.at.loop-asked-preserved c).After-can_go) ∙ c.if-can_go.false)

pub returns : goal.returns
returns c = search_ends c.loop-asked.invariant (omega arith)
