use mathlib.Core.Path.{refl, ◌∙◌}
use Rattle.spelling.specs.Words.{digit_of, numeral_of}
use Rattle.spelling.proofs.Numerals.{some_told, none_told, none_u, none_t, none_h, none_high, none_low, missing, one, two, three, four, other, by_digits, by_two}
use Rattle.spelling.proofs.number.Goals as goal

pub returns-in_err-digit : goal.returns-in_err-digit
returns-in_err-digit c =
    let a = c.args in
    missing (numeral_of a.n a.b0 a.b1 a.b2 a.b3) c.from_residual.ensures
    (one a.b0 a.b1 a.b2 a.b3 c.if-n-eq1.true ∙ none_u 0 0 _ (none_told 16 _ c.in_err-digit.ensures refl))

pub returns-in_err-digit-2 : goal.returns-in_err-digit-2
returns-in_err-digit-2 c =
    let a = c.args in
    missing (numeral_of a.n a.b0 a.b1 a.b2 a.b3) c.from_residual-in_err-digit-2.ensures
    (two a.b0 a.b1 a.b2 a.b3 c.if-n-eq1.false c.if-n-b0.true ∙ none_t 0 _ (digit_of a.b1) (none_told 16 _ c.in_err-digit-2.ensures refl))

pub returns-in_err-digit-3 : goal.returns-in_err-digit-3
returns-in_err-digit-3 c =
    let a = c.args in
    missing (numeral_of a.n a.b0 a.b1 a.b2 a.b3) c.from_residual-in_err-digit-3.ensures
    (two a.b0 a.b1 a.b2 a.b3 c.if-n-eq1.false c.if-n-b0.true ∙ none_u 0 (digit_of a.b0) _ (none_told 16 _ c.in_err-digit-3.ensures refl))

pub returns-in_err-digit-4 : goal.returns-in_err-digit-4
returns-in_err-digit-4 c =
    let a = c.args in
    missing (numeral_of a.n a.b0 a.b1 a.b2 a.b3) c.from_residual-in_err-digit-4.ensures
    (three a.b0 a.b1 a.b2 a.b3 c.if-n-eq1.false c.if-n-b0.false c.if-n-b0-2.true ∙ none_h _ _ _ (none_told 16 _ c.in_err-digit-4.ensures refl))

pub returns-in_err-digit-5 : goal.returns-in_err-digit-5
returns-in_err-digit-5 c =
    let a = c.args in
    missing (numeral_of a.n a.b0 a.b1 a.b2 a.b3) c.from_residual-in_err-digit-5.ensures
    (three a.b0 a.b1 a.b2 a.b3 c.if-n-eq1.false c.if-n-b0.false c.if-n-b0-2.true ∙ none_t _ _ _ (none_told 16 _ c.in_err-digit-5.ensures refl))

pub returns-in_err-digit-6 : goal.returns-in_err-digit-6
returns-in_err-digit-6 c =
    let a = c.args in
    missing (numeral_of a.n a.b0 a.b1 a.b2 a.b3) c.from_residual-in_err-digit-6.ensures
    (three a.b0 a.b1 a.b2 a.b3 c.if-n-eq1.false c.if-n-b0.false c.if-n-b0-2.true ∙ none_u (digit_of a.b0) (digit_of a.b1) _ (none_told 16 _ c.in_err-digit-6.ensures refl))

pub returns-in_err-digit-7 : goal.returns-in_err-digit-7
returns-in_err-digit-7 c =
    let a = c.args in
    missing (numeral_of a.n a.b0 a.b1 a.b2 a.b3) c.from_residual-in_err-digit-7.ensures
    (four a.b0 a.b1 a.b2 a.b3 c.if-n-eq1.false c.if-n-b0.false c.if-n-b0-2.false c.if-n-b0-3.true ∙ none_high _ _ (none_told 16 _ c.in_err-digit-7.ensures refl))

pub returns-in_err-digit-8 : goal.returns-in_err-digit-8
returns-in_err-digit-8 c =
    let a = c.args in
    missing (numeral_of a.n a.b0 a.b1 a.b2 a.b3) c.from_residual-in_err-digit-8.ensures
    (four a.b0 a.b1 a.b2 a.b3 c.if-n-eq1.false c.if-n-b0.false c.if-n-b0-2.false c.if-n-b0-3.true ∙ none_low _ _ (none_told 16 _ c.in_err-digit-8.ensures refl))

pub returns-then-n-eq1 : goal.returns-then-n-eq1
returns-then-n-eq1 c =
    let a = c.args in
    by_digits {h = 0} {t = 0} refl refl (some_told 16 _ c.in_ok-digit.ensures refl).0 (one a.b0 a.b1 a.b2 a.b3 c.if-n-eq1.true) c.decimal.ensures

pub returns-then-n-b0 : goal.returns-then-n-b0
returns-then-n-b0 c =
    let a = c.args in
    by_digits {h = 0} refl (some_told 16 _ c.in_ok-digit-2.ensures refl).0 (some_told 16 _ c.in_ok-digit-3.ensures refl).0
    (two a.b0 a.b1 a.b2 a.b3 c.if-n-eq1.false c.if-n-b0.true) c.decimal-then-n-b0.ensures

pub returns-then-n-b0-2 : goal.returns-then-n-b0-2
returns-then-n-b0-2 c =
    let a = c.args in
    by_digits (some_told 16 _ c.in_ok-digit-4.ensures refl).0 (some_told 16 _ c.in_ok-digit-5.ensures refl).0 (some_told 16 _ c.in_ok-digit-6.ensures refl).0
    (three a.b0 a.b1 a.b2 a.b3 c.if-n-eq1.false c.if-n-b0.false c.if-n-b0-2.true) c.decimal-then-n-b0-2.ensures

pub returns-then-n-b0-3 : goal.returns-then-n-b0-3
returns-then-n-b0-3 c =
    let a = c.args in
    by_two _ _ (some_told 16 _ c.in_ok-digit-7.ensures refl) (some_told 16 _ c.in_ok-digit-8.ensures refl)
    (four a.b0 a.b1 a.b2 a.b3 c.if-n-eq1.false c.if-n-b0.false c.if-n-b0-2.false c.if-n-b0-3.true)

pub returns : goal.returns
returns c = let a = c.args in missing (numeral_of a.n a.b0 a.b1 a.b2 a.b3) refl (other a.b0 a.b1 a.b2 a.b3 c.if-n-eq1.false c.if-n-b0.false c.if-n-b0-2.false c.if-n-b0-3.false)
