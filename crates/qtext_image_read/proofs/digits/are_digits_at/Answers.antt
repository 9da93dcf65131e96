use Rattle.std.proofs.Common.{w8}
use Rattle.std.proofs.lemmas.Simd.{chunk-fits, length-chunk}
use lib.Lanes.{chunk}
use Rattle.qtext_image_read.proofs.DigitLanes.{digit_lanes}
use Rattle.qtext_image_read.proofs.digits.are_digits_at.Goals as goal

pub returns : goal.returns
returns c =
    digit_lanes (chunk c.args.at 16 c.args.text.now) (length-chunk c.args.at 16 c.args.text.now c.requires)
    (chunk-fits w8 c.args.at 16 c.args.text.now c.type_inv.text)
