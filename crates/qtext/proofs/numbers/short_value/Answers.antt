use Rattle.std.proofs.Common.{◌≡◌, ◌≤◌, true, get_or, sym, ◌∙◌, arith}
use Rattle.std.specs.Char.{is_ascii_digit}
use Rattle.qtext.proofs.Numerals.{short_worth, digit_is_low}
use Rattle.qtext.proofs.numbers.short_value.Goals as goal

pub overflow_mul-value : goal.overflow_mul-value
overflow_mul-value c =
    let place = c.loop-digit.digit-index in
    omega (arith, short_worth c.loop-digit.value 0 place c.loop-digit.invariant.1 (omega (arith, c.loop-digit-test.true, c.requires)) (omega arith))

pub overflow_add-value : goal.overflow_add-value
overflow_add-value c =
    let place = c.loop-digit.digit-index in
    let digit = get_or c.args.digits.now place 0 in
    let is_digit : is_ascii_digit digit ≡ true = sym c.is_ascii_digit.ensures.value ∙ c.if-not-is_ascii_digit.false in
    let few : c.from.result ≤ 9 = omega (arith, c.from.ensures, digit_is_low digit is_digit) in
    omega (arith, short_worth c.loop-digit.value c.from.result place c.loop-digit.invariant.1 (omega (arith, c.loop-digit-test.true, c.requires)) few)
