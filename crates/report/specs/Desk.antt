-- What the desk prints for an input (01, 'Listing A and the edges').
-- Assumes nothing.
use Rattle.std.specs.Prelude.{ℕ, ◌+◌, ◌-◌, ◌/◌, ◌%◌, cond, List, [], ◌++◌, eqb, replicate, Result, Ok, Err}
use Rattle.model.specs.Run.{Outcome, Call, call, call_of}
use Rattle.model.specs.State.{start_state}
use Rattle.model.specs.declared.Ran.{Ran}
use Rattle.model.specs.declared.Refusal.{Refusal}
use Rattle.model.specs.declared.State.{State}
use Rattle.rules.specs.Grounds.{sheet_size, admit_of}
use Rattle.rules.specs.Sheet.{Listing, listing, need}
use Rattle.slices.specs.Parts.{part_of}
use Rattle.slices.specs.Sizes.{bank_size}
use Rattle.lines.specs.Lines.{refused_line, admitted_line, run_line}

-- "anything past 1,153 bytes is not read"
abbrev pub input_size : ℕ
input_size = 1153

-- where the sheet and the list begin
abbrev pub sheet_at : ℕ
sheet_at = bank_size + bank_size

abbrev pub list_at : ℕ
list_at = sheet_at + sheet_size

-- "opcodes, arguments, sheet, then the list to the end; a short input leaves the later parts short"
abbrev pub listing_in : List ℕ → Listing
listing_in input =
    listing (part_of input 0 bank_size) (part_of input bank_size bank_size) (part_of input sheet_at sheet_size)
    (part_of input list_at (input_size - list_at))

-- "a roll of 1,000 words and budget 1,000"
abbrev pub roll_size : ℕ
roll_size = 1000

abbrev pub budget : ℕ
budget = 1000

-- "runs from the start state with no keys, zero data and stack, a roll of 1,000 words and budget 1,000"
abbrev pub desk_call : (ops args : List ℕ) → State → Call
desk_call ops args s = call ops args [] budget s (replicate bank_size 0) (replicate bank_size 0) (replicate roll_size 0)

unfoldable pub ran_of : (ops args : List ℕ) → Outcome
ran_of ops args = call_of (desk_call ops args start_state)

-- "halted steps 8 cycles 31 out 6 sp 255". A refusal has no line: `ends` of Answered.antt rules it out
abbrev pub ran_line : Result Ran Refusal → State → List ℕ
ran_line (Err x) s = []
ran_line (Ok r) s = run_line r.stop r.steps r.cycles s.out s.sp

abbrev pub ran_text : Outcome → List ℕ
ran_text o = ran_line o.answer o.state

-- "The need is routine 0's"; "A refused listing prints only .. the number, then the place"
abbrev pub text_by : (answer : ℕ) → Listing → List ℕ
text_by answer L =
    cond (eqb answer 0) (admitted_line (need L 0) ++ ran_text (ran_of L.program.opcodes L.program.arguments))
    (refused_line (answer % 256) (answer / 256))

abbrev pub text_of : Listing → List ℕ
text_of L = text_by (admit_of L) L

unfoldable pub desk_text : List ℕ → List ℕ
desk_text input = text_of (listing_in input)

-- room for any answer: for an admitted listing's two lines, 25 + 74, and so for a refused one's
abbrev pub answer_room : ℕ
answer_room = 99
