use Rattle.std.proofs.Common.{◌%◌, ap, map, ◌∙◌}
use Rattle.std.proofs.lemmas.Simd.{zip2_splat}
use lib.Bits.{bit_and}
use Rattle.qtext.proofs.DigitLanes.{lower_half, same_map}
use Rattle.qtext.proofs.hex_digits.lower_halves.Goals as goal

pub returns : goal.returns
returns c =
    zip2_splat bit_and c.args.bytes 16 15 c.fits-bytes.0 ∙ same_map (λ b. bit_and b 15) (λ b. b % 16) lower_half c.args.bytes
