-- The lines that the desk prints (01, 'Listing A and the edges'), as bytes in ASCII, and room for each of them.
-- Assumes nothing.
use Rattle.std.specs.Prelude.{ℕ, List, ◌++◌}
use Rattle.model.specs.declared.Stop.{Stop}
use Rattle.model.specs.declared.Stop.TheVariants.{Halted, Spent, Unsettled, Full}
use Rattle.pages.specs.Text.{ascii, decimal}

-- a text and a number behind it
unfoldable pub numbered : List ℕ → ℕ → List ℕ
numbered text n = text ++ decimal n

-- 01: "A refused listing prints only, for example, `refused 15 at 1`: the number, then the place, also where it is 0"
unfoldable pub refused_line : ℕ → ℕ → List ℕ
refused_line number place = numbered (ascii "refused ") number ++ numbered (ascii " at ") place ++ ascii "\n"

-- room for it, its numbers being of 32 bits: (8 + 10) + (4 + 10) + 1
abbrev pub refused_room : ℕ
refused_room = 33

-- 01: "admitted need 2"; "the need is routine 0's"
unfoldable pub admitted_line : ℕ → List ℕ
admitted_line need = numbered (ascii "admitted need ") need ++ ascii "\n"

-- room for it: (14 + 10) + 1
abbrev pub admitted_room : ℕ
admitted_room = 25

-- 01: "The stops are named halted, spent, unsettled and full, in this order"
unfoldable pub stop_word : Stop → List ℕ
stop_word Halted = ascii "halted"
stop_word Spent = ascii "spent"
stop_word Unsettled = ascii "unsettled"
stop_word Full = ascii "full"

-- room for the longest of them
abbrev pub stop_room : ℕ
stop_room = 9

-- 01: "halted steps 8 cycles 31 out 6 sp 255"; "out is the output register"
unfoldable pub run_line : Stop → ℕ → ℕ → ℕ → ℕ → List ℕ
run_line stop steps cycles output sp =
    stop_word stop
    ++ numbered (ascii " steps ") steps
    ++ numbered (ascii " cycles ") cycles
    ++ numbered (ascii " out ") output
    ++ numbered (ascii " sp ") sp
    ++ ascii "\n"

-- room for it: 9 + (7 + 10) + (8 + 10) + (5 + 10) + (4 + 10) + 1
abbrev pub run_room : ℕ
run_room = 74
