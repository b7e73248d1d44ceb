-- 02 [7]: "30 when a number is cut off or isn't shortest; 31 when a number exceeds its field". Each of the code's refusals in this paper's number.
-- Assumes nothing.
use Rattle.std.specs.Prelude.{ℕ}
use Rattle.groups.specs.declared.FileFault.{FileFault}
use Rattle.groups.specs.declared.FileFault.TheVariants.{Malformed, OutOfBounds}

abbrev pub fault_number : FileFault → ℕ
fault_number Malformed = 30
fault_number OutOfBounds = 31
