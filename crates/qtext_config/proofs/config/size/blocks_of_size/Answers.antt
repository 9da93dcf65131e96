use Rattle.std.proofs.Common.{arith}
use Rattle.std.specs.Char.{is_ascii_digit}
use Rattle.std.proofs.lemmas.List.Sums.{prefix_len-le-length}
use Rattle.qtext_config.proofs.ConfigDigits.{AllDigits-prefix, product_is_small}
use Rattle.qtext_config.proofs.config.size.blocks_of_size.Goals as goal

pub split_at-requires : goal.split_at-requires
split_at-requires c = omega (arith, prefix_len-le-length is_ascii_digit c.args.text.now, c.digit_count.ensures)

pub number_of-requires-clause-digits : goal.number_of-requires-clause-digits
number_of-requires-clause-digits c = rw (c.split_at.ensures.front, c.digit_count.ensures) (AllDigits-prefix c.args.text.now)

pub overflow_mul-number_of : goal.overflow_mul-number_of
overflow_mul-number_of c = omega (arith, product_is_small c.number_of.result c.in_ok-unit.unit c.number_of.ensures.small c.in_ok-unit.ensures.range)
