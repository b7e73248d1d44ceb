-- The third demand of a list from any start state, from what admission promises.
-- Assumes nothing.
use mathlib.Core.Path.{refl}
use Prim.Native.Nat.{ℕ}
use Rattle.rules.specs.Sheet.{Listing}
use Rattle.admission.specs.Admission.{Admission}
use Rattle.demands.specs.Third.{begins, ThirdDemand}

pub list_demand : (L : Listing) (answer : ℕ) → Admission L answer → ThirdDemand L answer
list_demand L answer a e regs z c s ram stack l rs =
    let h = a.third e (begins regs z c s ram stack) (record { regs = regs; z = z; c = c; s = s; state = refl; stack_long = l }) rs in
    record {
      tallied = h.tallied;
      none_unsettled = h.none_unsettled;
      traces = h.traces;
      old_stack_hidden = λ stack' l'. h.noninterference (begins regs z c s ram stack') (record { state = refl; ram = refl; stack_long = l' });
    }
