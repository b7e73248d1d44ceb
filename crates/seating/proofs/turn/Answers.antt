-- The rules first; then the search, which is the definition's; then the run of the seat that was found. Each way out is one of the three outcomes.
use mathlib.Core.Path.{sym}
use native.Mathlib.Nat.{mod-lt}
use Rattle.std.specs.Prelude.{Some}
use Rattle.scheduling.specs.Numbers.{room_of}
use Rattle.seating.proofs.Outcomes.{Accepted, accepted, Seeks, seeks, is_seat, has_place, has_places, refused_as, none_as, ran_as}
use Rattle.seating.proofs.turn.Goals as goal
use Rattle.seating.proofs.turn.Goals.{In_default, In-Some}

-- a call that no rule refuses
kept : (c : In_default) → Accepted c.args.n c.args.slice (room_of c.args.opcodes.now c.args.arguments.now c.args.keys.now c.args.ram.now c.args.stack.now c.args.rolls.now c.args.lengths c.args.seats)
kept c = accepted c.args.n c.args.slice _ (sym c.in_default.ensures)

-- the seat that was found
found : (c : In-Some) → Seeks c.args.n c.args.slice c.args.from (room_of c.args.opcodes.now c.args.arguments.now c.args.keys.now c.args.ram.now c.args.stack.now c.args.rolls.now c.args.lengths c.args.seats) (Some c.in-Some.i)
found c = seeks c.args.from (accepted c.args.n c.args.slice _ (sym c.in_default.ensures)) (λ i. (c.type_inv.opcodes i).fits) c.in-Some.ensures

pub nonzero_rem-from : goal.nonzero_rem-from
nonzero_rem-from c = (kept (goal.at.nonzero_rem-from c).In_default).bounds.some_seats

pub next_seat-requires : goal.next_seat-requires
next_seat-requires c =
    let k = kept (goal.at.next_seat-requires c).In_default in
    (mod-lt _ k.bounds.some_seats, k.bounds.most_seats, k.fits.opcodes)

pub seat_after-next-requires : goal.seat_after-next-requires
seat_after-next-requires c = is_seat (found (goal.at.seat_after-next-requires c).In-Some)

pub run_seat-reached-requires-clause-seat_places : goal.run_seat-reached-requires-clause-seat_places
run_seat-reached-requires-clause-seat_places c = has_places (found (goal.at.run_seat-reached-requires-clause-seat_places c).In-Some)

pub run_seat-reached-requires-clause-i_lt_max_seats : goal.run_seat-reached-requires-clause-i_lt_max_seats
run_seat-reached-requires-clause-i_lt_max_seats c =
    let s = found (goal.at.run_seat-reached-requires-clause-i_lt_max_seats c).In-Some in
    (has_place s, s.accepts.bounds.most_steps)

pub seat_report-requires : goal.seat_report-requires
seat_report-requires c = has_place (found (goal.at.seat_report-requires c).In-Some)

pub returns-in-Err : goal.returns-in-Err
returns-in-Err c = refused_as _ _ _ _ _ _ _ _ _ _ _ _ _ c.idle.ensures (sym c.in-Err.ensures)

pub returns-in_default-next_seat : goal.returns-in_default-next_seat
returns-in_default-next_seat c =
    none_as _ _ _ _ _ _ _ _ _ _ _ _ c.idle-in_default-next_seat.ensures
    (seeks c.args.from (kept (goal.at.returns-in_default-next_seat c).In_default) (λ i. (c.type_inv.opcodes i).fits) c.in_default-next_seat.ensures)

pub returns : goal.returns
returns c =
    ran_as _ _ _ _ _ _ _ _ _ _ _ _ _ _ _ _ _ _ (found (goal.at.returns c).In-Some) c.seat_after-next.ensures c.run_seat-reached.ensures c.seat_report.ensures
