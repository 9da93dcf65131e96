use Rattle.std.proofs.Common.{refl, arith, w16}
use Rattle.std.proofs.lemmas.Simd.{below_from_Fits, get_or_narrower}
use Rattle.qtext.proofs.hex_digits.bytes_of.Goals as goal

pub returns-clause-parts : goal.returns-clause-parts
returns-clause-parts c j i low within =
    get_or_narrower 65536 2 256 16 c.args.pairs j i refl (below_from_Fits w16 c.args.pairs c.fits-pairs.1) within (omega arith)
