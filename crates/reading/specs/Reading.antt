-- A line read by a spelling, and the row of the table that a line fits.
-- Assumes nothing.
use Rattle.std.specs.Prelude.{ℕ, zero, suc, ◌+◌, ◌-◌, Bool, true, false, cond, ◌&&◌, ◌||◌, List, [], ◌∷◌, eqb, ltb, length, get_or, drop, Option, Some, None}
use Rattle.reading.specs.declared.Fit.{Fit}
use Rattle.spelling.specs.declared.Operand.{Operand}
use Rattle.spelling.specs.declared.Operand.TheVariants.{Register, Number, Name, Other}
use Rattle.spelling.specs.declared.Places.{Places}
use Rattle.reading.specs.declared.Scan.{Scan}
use Rattle.spelling.specs.Spellings.{pattern_of}
use Rattle.spelling.specs.Words.{word_length, operand_of, word_of}

-- X, Y, Z, # and @: what stands for a register, a number or an address in a spelling
abbrev pub is_place : ℕ → Bool
is_place c = eqb c 88 || eqb c 89 || eqb c 90 || eqb c 35 || eqb c 64

-- nothing read yet: "R0 in any field that its mnemonic doesn't show"
abbrev pub empty_places : Places
empty_places = record { d = 0; a = 0; b = 0; imm = 0; addr = 0; from = 0; size = 0 }

abbrev pub failed : Scan → Scan
failed s = record { ok = false; at = s.at; places = s.places }

abbrev pub scanned : ℕ → Places → Scan
scanned i p = record { ok = true; at = i; places = p }

-- a register r, up to i, at the place c of a spelling
abbrev pub took_register : ℕ → ℕ → ℕ → Scan → Scan
took_register c r i s =
    cond (eqb c 88) (scanned i (record { d = r; a = s.places.a; b = s.places.b; imm = s.places.imm; addr = s.places.addr; from = s.places.from; size = s.places.size }))
    (cond (eqb c 89) (scanned i (record { d = s.places.d; a = r; b = s.places.b; imm = s.places.imm; addr = s.places.addr; from = s.places.from; size = s.places.size }))
    (cond (eqb c 90) (scanned i (record { d = s.places.d; a = s.places.a; b = r; imm = s.places.imm; addr = s.places.addr; from = s.places.from; size = s.places.size }))
    (failed s)))

-- a number v: Imm8, or an address
abbrev pub took_number : ℕ → ℕ → ℕ → Scan → Scan
took_number c v i s =
    cond (eqb c 35) (scanned i (record { d = s.places.d; a = s.places.a; b = s.places.b; imm = v; addr = s.places.addr; from = s.places.from; size = s.places.size }))
    (cond (eqb c 64) (scanned i (record { d = s.places.d; a = s.places.a; b = s.places.b; imm = s.places.imm; addr = v; from = 0; size = 0 }))
    (failed s))

-- a label's name: "A label may stand for an address"
abbrev pub took_name : ℕ → ℕ → Scan → Scan
took_name c i s =
    cond (eqb c 64) (scanned i (record { d = s.places.d; a = s.places.a; b = s.places.b; imm = s.places.imm; addr = 0; from = s.at; size = i - s.at }))
    (failed s)

abbrev pub took_of : Operand → ℕ → ℕ → Scan → Scan
took_of (Register r) c i s = took_register c r i s
took_of (Number v) c i s = took_number c v i s
took_of Name c i s = took_name c i s
took_of Other c i s = failed s

-- a byte c of a spelling that stands for itself
unfoldable pub literal_of : List ℕ → ℕ → Scan → Scan
literal_of l c s = cond (ltb s.at (length l) && eqb (get_or l s.at 0) c) (scanned (s.at + 1) s.places) (failed s)

-- one byte c of a spelling: a place takes a whole word of the line
unfoldable pub byte_of : List ℕ → ℕ → Scan → Scan
byte_of l c s =
    cond s.ok
    (cond (is_place c) (took_of (operand_of (word_of (drop s.at l))) c (s.at + word_length false (drop s.at l)) s)
    (literal_of l c s))
    s

-- a whole spelling
unfoldable pub scan_of : List ℕ → List ℕ → Scan → Scan
scan_of l [] s = s
scan_of l (c ∷ p) s = scan_of l p (byte_of l c s)

-- the line l from place i on, read by the spelling in row k
unfoldable pub read_of : List ℕ → ℕ → ℕ → Scan
read_of l i k = scan_of l (pattern_of k) (scanned i empty_places)

-- whether it is read to its end
abbrev pub fits : List ℕ → Scan → Bool
fits l s = s.ok && eqb s.at (length l)

-- the first of n rows from k on that it fits
unfoldable pub matched_of : List ℕ → ℕ → ℕ → ℕ → Option Fit
matched_of l i k zero = None
matched_of l i k (suc n) =
    cond (fits l (read_of l i k)) (Some (record { row = k; places = (read_of l i k).places })) (matched_of l i (suc k) n)
