use Rattle.std.proofs.Common.{◌≡◌, ◌+◌, ◌*◌, ◌<◌, length, map, slice_index, ap, subst, sym, ◌∙◌, arith, w8}
use Rattle.std.proofs.lemmas.Simd.{chunk-fits, length-chunk}
use lib.Lanes.{Each1, chunk}
use Rattle.hex.specs.Hex.{lower_digits}
use Rattle.qtext.proofs.DigitLanes.{lowers_below, turns_stand, uppers_below}
use Rattle.qtext.proofs.hex_digits.encode_some.Goals as goal

pub digits_of-requires : goal.digits_of-requires
digits_of-requires c =
    let v = chunk c.args.at 16 c.args.bytes.now in
    subst (Each1 (λ d. d < 16)) (sym c.upper_halves.ensures) (uppers_below v (chunk-fits w8 c.args.at 16 c.args.bytes.now c.type_inv.bytes))

pub returns-clause-digits : goal.returns-clause-digits
returns-clause-digits c =
    let v = chunk c.args.at 16 c.args.bytes.now in
    turns_stand v c.digits_of.result c.digits_of-2.result c.args.out.now (2 * c.args.at)
    (length-chunk c.args.at 16 c.args.bytes.now (omega arith))
    (c.digits_of.ensures ∙ ap (map (slice_index lower_digits)) c.upper_halves.ensures)
    (c.digits_of-2.ensures ∙ ap (map (slice_index lower_digits)) c.lower_halves.ensures) c.requires.1
