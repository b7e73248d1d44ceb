-- The parts lent are the seat's own, so the run is the seat's, and what it leaves stands in their places.
use mathlib.Core.Path.{◌≡◌}
use Prim.Native.Nat.{◌+◌, ◌-◌, ◌*◌}
use native.Mathlib.Omega.{arith}
use Rattle.seats.specs.Room.{length_at}
use Rattle.scheduling.specs.Numbers.{room_of}
use Rattle.seating.proofs.SeatParts.{seat_ran}
use Rattle.seating.proofs.run_seat.Goals as goal

pub returns : goal.returns
returns c =
    let a = c.args in
    let k = c.begin_of-first_key.result in
    let l = c.begin_of-first_word.result in
    let w = room_of a.opcodes.now a.arguments.now a.keys.now a.ram.now a.stack.now a.rolls.now a.lengths a.seats in
    let eb : 256 * a.i + 256 - 256 * a.i ≡ 256 = omega arith in
    let ek : k + length_at a.lengths.0 a.i - k ≡ length_at a.lengths.0 a.i = omega arith in
    let el : l + length_at a.lengths.1 a.i - l ≡ length_at a.lengths.1 a.i = omega arith in
    (c.state_at-start.ensures.1, seat_ran w a.i a.slice _ _ _ _ _ _ _ _ _ _ eb ek el c.begin_of-first_key.ensures c.begin_of-first_word.ensures c.state_at-start.ensures.0 c.run_steps.ensures)
