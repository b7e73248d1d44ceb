-- The order of a busy page. 02 [3]: "Largest count first, equal counts by lower address".
-- Assumes nothing.
use Rattle.std.specs.Prelude.{ℕ, Bool, ◌&&◌, ◌||◌, List, eqb, ltb, get_or}
use Rattle.ranking.specs.declared.AddressCount.{AddressCount}

-- how often an address executed, by the counters
abbrev pub count_at : List ℕ → ℕ → ℕ
count_at counters a = get_or counters a 0

-- "for each address executed"
abbrev pub is_executed : List ℕ → ℕ → Bool
is_executed counters a = ltb 0 (count_at counters a)

-- an address with its count stands before another
unfoldable pub precedes : AddressCount → AddressCount → Bool
precedes x y = ltb y.count x.count || (eqb x.count y.count && ltb x.address y.address)

abbrev pub counted : List ℕ → ℕ → AddressCount
counted counters a = record { address = a; count = count_at counters a }

-- address a stands before address b
unfoldable pub busier : List ℕ → ℕ → ℕ → Bool
busier counters a b = precedes (counted counters a) (counted counters b)
