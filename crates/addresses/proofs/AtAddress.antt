-- The rules 8 to 16 at an address, from its word and the class of its instruction.
-- Assumes nothing.
use Rattle.std.proofs.Common.{◌≡◌, ℕ, ◌+◌, ◌*◌, Bool, true, false, cond, ◌||◌, ltb, List, [], ◌∷◌, get_or, sym, refl, ap, ◌∙◌}
use Rattle.isa.specs.Decode.{decode_of}
use Rattle.isa.specs.Facts.{class_of}
use Rattle.isa.specs.declared.Class.{Class}
use Rattle.model.specs.Step.{instr_at}
use Rattle.rules.specs.Grounds.{callee, bad_successor, any_bad, rules_at, address_checks_by, address_checks}
use Rattle.slices.specs.Checks.{first_broken}
use Rattle.rules.specs.Sheet.{listing, word, described, marked, routine, depth, routines, entry, need, class_at}
use Rattle.rules.specs.Successors.{Successor, successors}
use Rattle.addresses.specs.internal.Parts.{without_banks, class_checks}
use Rattle.sheets.specs.internal.Words.{word_of}

module _ (o g s l : List ℕ) (a : ℕ) where
  pub undescribed_answer : (word_of s a).described ≡ false → 0 ≡ first_broken (address_checks (listing o g s l) a)
  unfolding first_broken address_checks_by described word word_of
  undescribed_answer e = rw (e, first_broken)

  -- the rules look at the banks by the class alone
  successors_without_banks : (r : ℕ) (xs : List Successor) → any_bad (listing o g s l) r xs ≡ any_bad (without_banks s l) r xs
  unfolding described word marked routine depth
  successors_without_banks r [] = refl
  successors_without_banks r (x ∷ xs) = ap (λ (b : Bool). bad_successor (without_banks s l) r x || b) (successors_without_banks r xs)

  rules_without_banks : (k : Class) (r d : ℕ) (v : Bool) → first_broken (rules_at (listing o g s l) a k r d v) ≡ first_broken (rules_at (without_banks s l) a k r d v)
  unfolding first_broken callee routines entry need
  rules_without_banks k r d v = rw (successors_without_banks r (successors k a d v))

  -- 8, and what is left of the rules
  need_first : (k : Class) (r d : ℕ) (v : Bool)
      → cond (ltb (get_or l (2 * r + 1) 0) d) (8 + 256 * a) (first_broken (class_checks (without_banks s l) a k r d v))
      ≡ first_broken (rules_at (without_banks s l) a k r d v)
  unfolding first_broken need
  need_first k r d v = refl

  rules_of_described : (k : Class) → described (listing o g s l) a ≡ true → k ≡ class_at (listing o g s l) a
      → first_broken (rules_at (listing o g s l) a k (routine (listing o g s l) a) (depth (listing o g s l) a) (marked (listing o g s l) a))
      ≡ first_broken (address_checks (listing o g s l) a)
  unfolding address_checks_by
  rules_of_described k e q = rw (e, q)

  pub described_answer : (k : Class)
      → (word_of s a).described ≡ true
      → k ≡ class_of (decode_of (get_or o a 0) (get_or g a 0))
      → cond (ltb (get_or l (2 * (word_of s a).routine + 1) 0) (word_of s a).depth) (8 + 256 * a)
      (first_broken (class_checks (without_banks s l) a k (word_of s a).routine (word_of s a).depth (word_of s a).marked))
      ≡ first_broken (address_checks (listing o g s l) a)
  unfolding described word marked routine depth word_of instr_at
  described_answer k e q =
      let w = word_of s a in
      need_first k w.routine w.depth w.marked ∙ sym (rules_without_banks k w.routine w.depth w.marked) ∙ rules_of_described k e q
