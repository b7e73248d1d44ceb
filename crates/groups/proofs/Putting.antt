-- The loop that writes a number: what is left of it, written from here, leaves the page of the whole.
-- Assumes nothing.
use Prim.Native.Nat.{ℕ, ◌+◌, ◌/◌, ◌%◌, ◌≤◌, ◌<◌}
use native.Mathlib.Omega.{arith}
use mathlib.Core.Path.{◌≡◌, sym, ◌∙◌}
use lib.ListN.{length}
use Rattle.pages.specs.Page.{Page, put_of, write_of}
use Rattle.groups.specs.Groups.{groups_of}
use Rattle.groups.proofs.Groups.{last_group, more_groups}

pub record Putting (n : ℕ) (p₀ : Page) (rest : ℕ) (p : Page) : Type 0 where
  pub room : length p.bytes ≡ length p₀.bytes
  pub left : write_of (groups_of rest) p ≡ write_of (groups_of n) p₀

pub put_goes : {n rest x : ℕ} {p₀ p q : Page} → Putting n p₀ rest p → 127 < rest → x ≡ 128 + rest % 128 → q ≡ put_of x p → length q.bytes ≡ length p.bytes
    → Putting n p₀ (rest / 128) q
unfolding write_of
put_goes {n} {rest} {x} {p₀} {p} {q} w l d e r =
    let first : write_of (groups_of rest) p ≡ write_of (groups_of (rest / 128)) q = rw (more_groups rest l, e, d) in
    record { room = r ∙ w.room; left = sym first ∙ w.left }

pub put_ends : {n rest x : ℕ} {p₀ p q : Page} → Putting n p₀ rest p → rest ≤ 127 → x ≡ rest → q ≡ put_of x p → q ≡ write_of (groups_of n) p₀
unfolding write_of
put_ends {n} {rest} {x} {p₀} {p} {q} w l d e =
    let last : q ≡ write_of (groups_of rest) p = rw (last_group rest (omega arith), e, d) in
    last ∙ w.left
