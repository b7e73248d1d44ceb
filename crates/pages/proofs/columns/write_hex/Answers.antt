-- One digit behind the other.
use Rattle.pages.specs.Page.{page}
use Rattle.pages.proofs.Alignment.{two_bytes}
use Rattle.pages.proofs.columns.write_hex.Goals as goal

pub returns : goal.returns
returns c =
    let a = c.args in
    two_bytes (page a.out.now a.at) c.hex_digit.ensures c.hex_digit-2.ensures c.put-next.ensures c.put.ensures
