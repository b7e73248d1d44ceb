-- Admission answers each of the listings as worked out, and so did the former rules: one statement over each table, computed.
-- Assumes nothing.
use mathlib.Core.Path.{refl}
use Rattle.isa.specs.Decode.{form_of, decode_of}
use Rattle.model.specs.Step.{instr_at}
use Rattle.alu.specs.Alu.{alu_of, sum_of, difference_of, settles_of}
use Rattle.rules.specs.Grounds.{each, find, callee, bad_blank, bad_routine, bad_entry, address_checks_by, checks_by, admit_by}
use Rattle.slices.specs.Checks.{first_broken}
use Rattle.rules.specs.Sheet.{word, described, marked, routine, depth, routines, entry, need}
use Rattle.examples.specs.Listings.{Answered}
use Rattle.examples.specs.MovListings.{AnsweredByBoth}

pub answered : Answered
unfolding admit_by checks_by address_checks_by each first_broken find callee bad_blank bad_routine bad_entry word described marked routine depth routines entry need instr_at decode_of form_of settles_of alu_of sum_of difference_of
answered = record { numbers = refl; as_stated = refl }

pub answered_by_both : AnsweredByBoth
unfolding admit_by checks_by address_checks_by each first_broken find callee bad_blank bad_routine bad_entry word described marked routine depth routines entry need instr_at decode_of form_of settles_of alu_of sum_of difference_of
answered_by_both = record { seven = refl; as_now = refl; as_formerly = refl }
