-- Where V is settled, or not tested, no stop is `unsettled`.
-- Assumes nothing.
use Prim.Native.Nat.{ℕ}
use native.Mathlib.Omega.{arith}
use mathlib.Core.Path.{◌≡◌}
use mathlib.Core.Bool.{Bool, true, false, not, cond, ◌&&◌}
use lib.Dec.{eqb, leb}
use lib.ListN.{length}
use Rattle.std.specs.Prelude.{Some}
use Rattle.alu.specs.Alu.{is_settled}
use Rattle.isa.specs.Facts.{writes_roll}
use Rattle.isa.specs.declared.Instr.{Instr}
use Rattle.model.specs.Run.{Ended, tests_overflow, first_stop, verdict_of}
use Rattle.model.specs.Step.{Core}
use Rattle.model.specs.declared.Stop.{Stop}
use Rattle.model.specs.declared.Stop.TheVariants.{Halted, Spent, Unsettled}

abbrev pub stop_in : Ended → Stop
stop_in e = e.stop

-- only the third test stops by `unsettled`
third_alone : (halted spent full : Bool) → first_stop halted spent false full ≡ Some Unsettled → ⊥
third_alone true spent full e = let z : ◌≡◌ {A = ℕ} 0 1 = cc in omega arith
third_alone false true full e = let z : ◌≡◌ {A = ℕ} 0 1 = cc in omega arith
third_alone false false true e = let z : ◌≡◌ {A = ℕ} 0 1 = cc in omega arith
third_alone false false false e = let z : ◌≡◌ {A = ℕ} 0 1 = cc in omega arith

pub never_unsettled : (i : Instr) (n : ℕ) (k : Core) → tests_overflow i && not (is_settled k.state.flags.v) ≡ false → verdict_of i n k ≡ Some Unsettled → ⊥
unfolding verdict_of
never_unsettled i n k q e = third_alone k.state.halted (eqb n 0) (writes_roll i && leb (length k.roll) k.words) (rw q at e)

-- with no budget left
pub last_settled : (halted : Bool) → cond halted Halted Spent ≡ Unsettled → ⊥
last_settled true e = let z : ◌≡◌ {A = ℕ} 0 1 = cc in omega arith
last_settled false e = let z : ◌≡◌ {A = ℕ} 0 1 = cc in omega arith
