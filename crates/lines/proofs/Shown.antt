-- The lines that 01 shows, computed.
-- Assumes nothing.
use mathlib.Core.Path.{refl}
use Rattle.pages.specs.Text.{digits, decimal}
use Rattle.lines.specs.Lines.{numbered, refused_line, admitted_line, stop_word, run_line}
use Rattle.lines.specs.Shown.{Shown}

pub shown : Shown
unfolding digits decimal numbered refused_line admitted_line stop_word run_line
shown = record { listing_a = refl; spent_run = refl; refused_15 = refl; refused_at_0 = refl; largest = refl }
