use native.Mathlib.Omega.{arith}
use mathlib.Core.Path.{sym, ap, ◌∙◌}
use mathlib.Core.List.{List}
use Prim.Native.Nat.{ℕ, ◌+◌, ◌*◌}
use lib.ListN.{length, get_or, get_or-eq_default}
use Rattle.spelling.specs.Spellings.{pattern_of}
use Rattle.spelling.proofs.Rows.{table_at, table_length, short, none_past}
use borrow.Author.Rules.{rules}
use Rattle.spelling.proofs.pattern.Goals as goal

pub returns-then-k-ge-ROW_COUNT : goal.returns-then-k-ge-ROW_COUNT
unfolding pattern_of
returns-then-k-ge-ROW_COUNT c = rw (none_past c.args.k (search rules))

pub returns-then-j-ge-ROW_WIDTH : goal.returns-then-j-ge-ROW_WIDTH
unfolding pattern_of
returns-then-j-ge-ROW_WIDTH c = sym (get_or-eq_default (pattern_of c.args.k) 46 (omega (arith, short c.args.k)))

pub bounds-table-k : goal.bounds-table-k
unfolding pattern_of
bounds-table-k c = omega (arith, ap (length {A = ℕ}) c.requires ∙ table_length)

pub returns : goal.returns
unfolding pattern_of
returns c = let a = c.args in ap (λ (l : List ℕ). get_or l (16 * a.k + a.j) 0) c.requires ∙ table_at a.k a.j (search rules) (search rules)
