-- No file has over 2,051 bytes: 2 of n, 7 of each address, 1 of the number of routines and 4 of each routine.
-- Assumes nothing.
use Prim.Native.Nat.{ℕ, zero, suc, ◌*◌, ◌≤◌}
use native.Mathlib.Omega.{arith}
use mathlib.Core.List.{List, [], ◌∷◌, ◌++◌}
use lib.ListN.{length, length-append}
use Rattle.groups.specs.Groups.{groups_of, row_of}
use Rattle.groups.proofs.Lengths.{one_group, two_groups, three_groups}
use Rattle.groups.proofs.Fields.{InFields}
use Rattle.rules.specs.Sheet.{Listing, routines}
use Rattle.files.specs.Calls.{file_room}
use Rattle.files.specs.File.{least_of, address_numbers, file_of, address_fields, byte_fields}
use Rattle.files.specs.Promise.{Passes}
use Rattle.files.proofs.Least.{used_within}
use Rattle.files.proofs.Numbers.{numbers_fit, list_fit}
use Rattle.files.proofs.Parts.{in_parts, row_parts}
use Rattle.files.proofs.Sizes.{good_sizes}

addresses_short : (n : ℕ) (xs : List ℕ) → InFields (address_fields n) xs → length (row_of xs) ≤ 7 * n
unfolding row_of
addresses_short zero [] h = omega arith
addresses_short (suc n) (o ∷ g ∷ w ∷ ys) h =
    let r = addresses_short n ys h.2.2.2 in
    let a = two_groups o (omega (arith, h.1)) in
    let b = two_groups g (omega (arith, h.2.1)) in
    let c = three_groups w (omega (arith, h.2.2.1)) in
    rw (length-append (groups_of o) (groups_of g ++ (groups_of w ++ row_of ys)), length-append (groups_of g) (groups_of w ++ row_of ys), length-append (groups_of w) (row_of ys))
    (omega arith)
addresses_short zero (x ∷ xs) h = absurd h
addresses_short (suc n) [] h = absurd h
addresses_short (suc n) (o ∷ []) h = absurd h.2
addresses_short (suc n) (o ∷ g ∷ []) h = absurd h.2.2

list_short : (m : ℕ) (rs : List ℕ) → InFields (byte_fields m) rs → length (row_of rs) ≤ 2 * m
unfolding row_of
list_short zero [] h = omega arith
list_short (suc m) (r ∷ rs) h =
    let s = list_short m rs h.2 in
    let a = two_groups r (omega (arith, h.1)) in
    rw (length-append (groups_of r) (row_of rs)) (omega arith)
list_short zero (r ∷ rs) h = absurd h
list_short (suc m) [] h = absurd h

pub parts_short : (n : ℕ) (xs : List ℕ) (k : ℕ) (rs : List ℕ) → n ≤ 256 → InFields (address_fields n) xs → k ≤ 64 → InFields (byte_fields (2 * k)) rs
    → length (in_parts n xs k rs []) ≤ file_room
parts_short n xs k rs l h f r =
    let a = two_groups n (omega arith) in
    let b = addresses_short n xs h in
    let c = one_group k (omega arith) in
    let d = list_short (2 * k) rs r in
    rw (length-append (groups_of n) (row_of xs ++ (groups_of k ++ (row_of rs ++ []))), length-append (row_of xs) (groups_of k ++ (row_of rs ++ [])), length-append (groups_of k) (row_of rs ++ []), length-append (row_of rs) [])
    (omega arith)

pub file_short : (L : Listing) → Passes L → length (file_of L) ≤ file_room
unfolding file_of
file_short L p =
    let z = good_sizes L p.sizes in
    let n = least_of L in
    let xs = address_numbers L 0 n in
    rw (row_parts n xs (routines L) L.list)
    (parts_short n xs (routines L) L.list (used_within L 256) (numbers_fit L 0 n p.opcode_bytes p.argument_bytes p.sheet_bytes) z.few
    (list_fit (2 * routines L) L.list z.list p.list_bytes))
