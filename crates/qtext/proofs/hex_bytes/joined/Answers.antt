use Rattle.std.proofs.Common.{length, ap, sym, ◌∙◌, arith}
use Rattle.std.proofs.lemmas.Simd.{length-zip2}
use Rattle.qtext.proofs.ByteLanes.{joined_are}
use Rattle.qtext.proofs.hex_bytes.joined.Goals as goal

pub returns-clause-bytes : goal.returns-clause-bytes
returns-clause-bytes c = joined_are c.args.uppers c.args.lowers c.fits-uppers.0 c.requires.uppers c.requires.lowers

pub returns-clause-len : goal.returns-clause-len
returns-clause-len c =
    let is = joined_are c.args.uppers c.args.lowers c.fits-uppers.0 c.requires.uppers c.requires.lowers in
    ap length is ∙ length-zip2 _ c.args.uppers c.args.lowers (c.fits-uppers.0 ∙ sym c.fits-lowers.0) ∙ c.fits-uppers.0
