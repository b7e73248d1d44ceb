-- The lines that 01 shows ('Listing A and the edges'), and some like them, byte for byte.
-- Assumes nothing.
use Rattle.std.specs.Prelude.{◌≡◌, ◌++◌}
use Rattle.model.specs.declared.Stop.TheVariants.{Halted, Spent}
use Rattle.pages.specs.Text.{ascii, decimal}
use Rattle.lines.specs.Lines.{refused_line, admitted_line, run_line}

pub record Shown : Type 0 where
  -- the two lines of listing A
  pub listing_a : admitted_line 2 ++ run_line Halted 8 31 6 255 ≡ ascii "admitted need 2\nhalted steps 8 cycles 31 out 6 sp 255\n"
  -- "the other stop word is `spent`"
  pub spent_run : run_line Spent 1000 4000 0 254 ≡ ascii "spent steps 1000 cycles 4000 out 0 sp 254\n"
  -- "for example, `refused 15 at 1`: the number, then the place, also where it is 0"
  pub refused_15 : refused_line 15 1 ≡ ascii "refused 15 at 1\n"
  pub refused_at_0 : refused_line 3 0 ≡ ascii "refused 3 at 0\n"
  -- the largest number of 32 bits has the most digits
  pub largest : decimal 4294967295 ≡ ascii "4294967295"
