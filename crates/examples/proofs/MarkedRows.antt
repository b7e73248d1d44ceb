-- The rows marked for proof, computed.
-- Assumes nothing.
use Prim.Native.Nat.{ℕ}
use mathlib.Core.Path.{refl}
use Rattle.alu.specs.Alu.{alu_of, sum_of, difference_of, settles_of}
use Rattle.isa.specs.Decode.{form_of, decode_of}
use Rattle.model.specs.Step.{instr_at, applied_of, step_of}
use Rattle.rules.specs.Grounds.{each, find, callee, bad_blank, bad_routine, bad_entry, address_checks_by, checks_by, admit_by}
use Rattle.slices.specs.Checks.{first_broken}
use Rattle.rules.specs.Sheet.{word, described, marked, routine, depth, routines, entry, need}
use Rattle.examples.specs.Marked.{Marked}

pub marked_rows : (b : ℕ) → Marked b
unfolding alu_of sum_of difference_of settles_of step_of applied_of instr_at decode_of form_of admit_by checks_by address_checks_by each first_broken find callee bad_blank bad_routine bad_entry word described marked routine depth routines entry need
marked_rows b = record { numbers = refl; as_stated = refl }
