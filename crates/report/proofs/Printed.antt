-- Listing A, computed: it is admitted, and its run makes eight steps.
-- Assumes nothing.
use mathlib.Core.Path.{◌≡◌, refl, ◌∙◌}
use mathlib.Core.List.{◌++◌}
use Rattle.alu.specs.Alu.{alu_of, sum_of, difference_of, settles_of}
use Rattle.isa.specs.Decode.{form_of, decode_of}
use Rattle.model.specs.Run.{verdict_of, run_of, refusal_of, call_of}
use Rattle.model.specs.Step.{instr_at, applied_of, step_of}
use Rattle.model.specs.declared.Stop.TheVariants.{Halted}
use Rattle.rules.specs.Grounds.{each, find, callee, bad_blank, bad_routine, bad_entry, address_checks_by, checks_by, admit_by}
use Rattle.rules.specs.Sheet.{word, described, marked, routine, depth, routines, entry, need}
use Rattle.slices.specs.Checks.{first_broken}
use Rattle.report.specs.Desk.{ran_of, desk_text}
use Rattle.lines.specs.Lines.{admitted_line, run_line}
use Rattle.lines.proofs.Shown.{shown}
use Rattle.report.specs.Printed.{input_a, Printed}

-- what admission and the run tell of listing A
computed : desk_text input_a ≡ admitted_line 2 ++ run_line Halted 8 31 6 255
unfolding desk_text ran_of admit_by checks_by address_checks_by each first_broken find callee bad_blank bad_routine bad_entry word described marked routine depth routines entry need instr_at decode_of form_of settles_of alu_of sum_of difference_of verdict_of run_of refusal_of call_of applied_of step_of
computed = refl

pub printed : Printed
printed = record { listing_a = computed ∙ shown.listing_a; lines = shown }
