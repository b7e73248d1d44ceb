-- 01, 'The machine': "Four banks of 256 bytes".
-- Assumes nothing.
use Rattle.std.specs.Prelude.{ℕ, Bool, not, List, eqb, length}

abbrev pub bank_size : ℕ
bank_size = 256

-- a buffer lent as a bank "isn't 256 bytes"
abbrev pub bad_bank : List ℕ → Bool
bad_bank l = not (eqb (length l) bank_size)
