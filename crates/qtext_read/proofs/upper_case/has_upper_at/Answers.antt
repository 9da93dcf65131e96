use Rattle.std.proofs.Common.{w8}
use Rattle.std.proofs.lemmas.Simd.{chunk-fits, length-chunk}
use lib.Lanes.{chunk}
use Rattle.qtext_read.proofs.UpperLanes.{upper_lanes}
use Rattle.qtext_read.proofs.upper_case.has_upper_at.Goals as goal

pub returns : goal.returns
returns c =
    upper_lanes (chunk c.args.at 16 c.args.text.now) (length-chunk c.args.at 16 c.args.text.now c.requires)
    (chunk-fits w8 c.args.at 16 c.args.text.now c.type_inv.text)
