use Rattle.std.proofs.Common.{get_or, arith}
use Rattle.std.proofs.lemmas.Int.Digits.{digits_value_more}
use Rattle.std.proofs.lemmas.Str.{digit_value_digit}
use Rattle.std.proofs.lemmas.Str.Parse.{digit_at}
use Rattle.qtext_config.proofs.ConfigDigits.{front_is_small}
use Rattle.qtext_config.proofs.config.size.number_of.Goals as goal

pub overflow_mul-number : goal.overflow_mul-number
overflow_mul-number c =
    let small = front_is_small c.args.digits.now c.loop-digit.digit-index c.requires.digits c.requires.few in
    omega (arith, c.loop-digit.invariant)

pub overflow_sub-digit : goal.overflow_sub-digit
overflow_sub-digit c = omega (arith, digit_at c.args.digits.now c.loop-digit.digit-index c.requires.digits c.loop-digit-test.true)

pub overflow_add-number : goal.overflow_add-number
overflow_add-number c =
    let small = front_is_small c.args.digits.now c.loop-digit.digit-index c.requires.digits c.requires.few in
    omega (arith, c.loop-digit.invariant, c.from.ensures, c.type_inv.digits c.loop-digit.digit-index)

pub loop-digit-preserved : goal.loop-digit-preserved
loop-digit-preserved c =
    let more = digits_value_more 10 c.args.digits.now c.loop-digit.digit-index c.loop-digit-test.true in
    let at = digit_at c.args.digits.now c.loop-digit.digit-index c.requires.digits c.loop-digit-test.true in
    let digit = digit_value_digit (get_or c.args.digits.now c.loop-digit.digit-index 0) at in
    omega (arith, c.loop-digit.invariant, c.from.ensures)

pub returns-clause-small : goal.returns-clause-small
returns-clause-small c =
    let small = front_is_small c.args.digits.now c.loop-digit.digit-index c.requires.digits c.requires.few in
    omega (arith, c.loop-digit.invariant)
