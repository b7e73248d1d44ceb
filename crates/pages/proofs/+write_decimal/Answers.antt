-- The digits of a tenth, and the last digit behind them.
use Rattle.std.proofs.Common.{ℕ, ◌≡◌, ◌/◌, ◌<◌, ◌≤◌}
use Rattle.pages.specs.Text.{digit, decimal}
use Rattle.pages.specs.Page.{Page, page, put_of, write_of}
use Rattle.pages.proofs.Decimal.{one_digit, more_digits, decimal_written}
use Rattle.pages.proofs.Pages.{byte_behind}
use Rattle.pages.proofs.+write_decimal.Goals as goal

-- a number below 10 is its last digit
alone : (n : ℕ) (p : Page) {x : ℕ} {q : Page} → n < 10 → x ≡ digit n → q ≡ put_of x p → q ≡ write_of (decimal n) p
unfolding write_of
alone n p l d e = rw (one_digit n l, ← d) e

-- any other has those of its tenth before it
behind : (n : ℕ) (p : Page) {x : ℕ} {q r : Page} → 10 ≤ n → q ≡ write_of (decimal (n / 10)) p → x ≡ digit n → r ≡ put_of x q → r ≡ write_of (decimal n) p
behind n p {x} l e d h = rw (more_digits n l, ← d) (byte_behind (decimal (n / 10)) x p e h)

pub returns-then-n-lt10 : goal.returns-then-n-lt10
returns-then-n-lt10 t c =
    let a = c.args in
    let p = page a.out.now a.at in
    decimal_written a.n c.ranges.n.fits p (alone a.n p c.if-n-lt10.true c.last_digit.ensures c.put.ensures)

pub returns : goal.returns
returns t c =
    let a = c.args in
    let p = page a.out.now a.at in
    decimal_written a.n c.ranges.n.fits p (behind a.n p c.if-n-lt10.false c.write_decimal-next.ensures.text.left c.last_digit-2.ensures c.put-2.ensures)
