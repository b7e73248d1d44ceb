-- 02 [3]: "256 counters of 32 bits, set to how often each address executed in that run; they add up to its steps".
-- Assumes nothing.
use Rattle.std.specs.Prelude.{ℕ, zero, suc, ◌+◌, cond, List, [], ◌∷◌, eqb}
use Rattle.slices.specs.Lists.{mapped}
use Rattle.slices.specs.Sizes.{bank_size}
use Rattle.model.specs.Run.{trace_of}
use Rattle.model.specs.Step.{Setting, Machine}

-- the address at which a machine makes its next step
abbrev pub address_of : Machine → ℕ
address_of m = m.core.state.pc

-- the addresses that a run executes, one for each step of its trace
unfoldable pub executed_of : Setting → ℕ → Machine → List ℕ
executed_of x budget m = mapped address_of (trace_of x budget m)

-- how often an address stands in a row
unfoldable pub times_in : List ℕ → ℕ → ℕ
times_in [] a = 0
times_in (x ∷ l) a = cond (eqb x a) (times_in l a + 1) (times_in l a)

-- f a, f (a + 1), .., n of them
abbrev pub table_from : (ℕ → ℕ) → ℕ → ℕ → List ℕ
table_from f a zero = []
table_from f a (suc n) = f a ∷ table_from f (suc a) n

-- "set to how often each address executed"
unfoldable pub counters_of : List ℕ → List ℕ
counters_of executed = table_from (times_in executed) 0 bank_size
