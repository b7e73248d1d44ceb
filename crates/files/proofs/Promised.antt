-- The promise of shelf files: each listing that passes 1 to 3 has one file, and that opens to it.
-- Assumes nothing.
use Prim.Native.Nat.{ℕ, ◌≤◌}
use native.Mathlib.Omega.{arith}
use mathlib.Core.Path.{◌≡◌, sym, ap, ◌∙◌}
use mathlib.Core.List.{List}
use lib.ListN.{length, take, drop}
use lib.Seq.{take-append_seam}
use borrow.Author.Tests.{le-ltb}
use Rattle.slices.specs.Checks.{NoneBroken}
use Rattle.slices.specs.Lists.{Bytes}
use Rattle.slices.proofs.Checks.{Numbered, all_hold, first_violation}
use Rattle.groups.proofs.Readings.{not_got}
use Rattle.groups.proofs.Shortest.{shortest, in_front}
use Rattle.rules.specs.Grounds.{buffer_checks}
use Rattle.rules.specs.Sheet.{Listing}
use Rattle.files.specs.Calls.{file_room, write_checks, write_fault, stored, shelved_of, open_fault, opened_to, delivered, opened_of}
use Rattle.files.specs.File.{file_of, listing_in}
use Rattle.files.specs.Promise.{Passes, HasFile, IsFile, ShelfPromise}
use Rattle.files.proofs.Examples.{worked}
use Rattle.files.proofs.Least.{blank_after, used_least}
use Rattle.files.proofs.OpenedFile.{opens_passes, opens_file}
use Rattle.files.proofs.Short.{file_short}
use Rattle.files.proofs.WrittenOpens.{file_opens}

pub numbered_write : (L : Listing) (out : List ℕ) → Numbered (write_checks L out)
numbered_write L out = (omega arith, (omega arith, (omega arith, (omega arith, tt))))

pub numbered_open : (B : Listing) → Numbered (buffer_checks B)
numbered_open B = (omega arith, (omega arith, (omega arith, tt)))

-- a listing that passes and a long enough buffer break no rule
pub nothing_wrong : (L : Listing) → Passes L → (out : List ℕ) → file_room ≤ length out → write_fault L out ≡ 0
unfolding write_fault
nothing_wrong L p out h =
    let s = p.sizes in
    all_hold (write_checks L out) (s.0, (s.1.0, (s.1.1.0, (le-ltb (length out) file_room h, tt))))

file_returns : (L : Listing) → Passes L → (out : List ℕ) (B : Listing) → file_room ≤ length out → NoneBroken (buffer_checks B)
    → opened_of (take (length (file_of L)) (shelved_of L out).out) B ≡ opened_to L
unfolding shelved_of stored opened_of open_fault delivered
file_returns L p out B h b =
    rw (nothing_wrong L p out h, take-append_seam (file_of L) (drop (length (file_of L)) out), all_hold (buffer_checks B) b, file_opens L p)

has_file : (L : Listing) → Passes L → HasFile L
has_file L p =
    record { blank_from = blank_after L 256; least = used_least L 256; opens = file_opens L p; short = file_short L p; returns = file_returns L p }

is_file : (file : List ℕ) → Bytes file → IsFile file
is_file file ok =
    record {
      passes = opens_passes file ok;
      the_file = opens_file file ok;
      no_file = λ r L p e. not_got (sym r ∙ ap listing_in e ∙ file_opens L p);
    }

pub promised : ShelfPromise
unfolding write_fault open_fault
promised =
    record {
      files = has_file;
      opened = is_file;
      one_file = λ f g L a b d e. opens_file f a d ∙ sym (opens_file g b e);
      shortest = shortest;
      in_front = in_front;
      write_first = λ L out. first_violation (write_checks L out) (numbered_write L out);
      open_first = λ B. first_violation (buffer_checks B) (numbered_open B);
      worked = worked;
    }
