-- n, the addresses, the number of routines and the list, one behind another, are the file.
use Prim.Native.Nat.{◌≤◌}
use native.Mathlib.Omega.{arith}
use Rattle.pages.specs.Page.{page}
use Rattle.files.proofs.Least.{used_within}
use Rattle.shelving.specs.internal.Lent.{lent}
use Rattle.shelving.proofs.Answers.{file_put}
use Rattle.shelving.proofs.Parts.put_file.Goals as goal
use Rattle.shelving.proofs.Parts.put_file.Goals.{After-least-n}

abbrev few : (c : After-least-n) → c.least-n.result ≤ 256
few c = omega (arith, used_within (lent c.args.self.now) 256, c.least-n.ensures)

pub overflow_cast-n : goal.overflow_cast-n
overflow_cast-n c = omega (arith, few (goal.at.overflow_cast-n c).After-least-n)

pub put_addresses-after_addresses-requires : goal.put_addresses-after_addresses-requires
put_addresses-after_addresses-requires c = few (goal.at.put_addresses-after_addresses-requires c).After-least-n

pub returns : goal.returns
returns c =
    file_put (lent c.args.self.now) _ (page c.args.out.now 0) c.least-n.ensures c.put_number-after_n.ensures c.put_addresses-after_addresses.ensures
    c.put_number-after_count.ensures c.put_bytes.ensures
