use Rattle.std.proofs.Common.{◌≡◌, ◌≤◌, ◌+◌, ◌-◌, ◌*◌, ◌^◌, true, get_or, sym, ◌∙◌, arith}
use Rattle.std.specs.Char.{is_ascii_digit}
use Rattle.qtext.proofs.Numerals.{too_large, cut_at, not_less}
use Rattle.qtext.proofs.numbers.long_value.Goals as goal

pub returns-in_err-checked_mul : goal.returns-in_err-checked_mul
returns-in_err-checked_mul c =
    let digit = get_or c.args.digits.now c.loop-digit.digit-index 0 in
    let is_digit : is_ascii_digit digit ≡ true = sym c.is_ascii_digit.ensures.value ∙ c.if-not-is_ascii_digit.false in
    let more = not_less _ _ c.in_err-checked_mul.ensures in
    let large : 2 ^ 64 ≤ c.loop-digit.value * 10 + (digit - 48) = omega (arith, more) in
    rw c.from_residual.ensures
    (too_large c.args.digits.now _ _ c.loop-digit.value digit (2 ^ 64)
    (cut_at c.args.digits.now c.loop-digit.digit-index c.loop-digit-test.true) is_digit large
    c.loop-digit.invariant)

pub returns-in_err-value : goal.returns-in_err-value
returns-in_err-value c =
    let digit = get_or c.args.digits.now c.loop-digit.digit-index 0 in
    let is_digit : is_ascii_digit digit ≡ true = sym c.is_ascii_digit.ensures.value ∙ c.if-not-is_ascii_digit.false in
    let more = not_less _ _ c.in_err-value.ensures in
    let large : 2 ^ 64 ≤ c.loop-digit.value * 10 + (digit - 48) = omega (arith, more, c.from.ensures, c.in_ok-checked_mul.ensures) in
    rw c.from_residual-in_err-value.ensures
    (too_large c.args.digits.now _ _ c.loop-digit.value digit (2 ^ 64)
    (cut_at c.args.digits.now c.loop-digit.digit-index c.loop-digit-test.true) is_digit large
    c.loop-digit.invariant)
