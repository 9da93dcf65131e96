use Rattle.std.proofs.Common.{refl, ◌+◌, ◌*◌, ◌∙◌, arith, w8}
use Rattle.std.proofs.lemmas.Simd.{below_from_Fits, get_or_wider}
use Rattle.qtext.proofs.DigitLanes.{pair_in}
use Rattle.qtext.proofs.hex_digits.pairs_of.Goals as goal

pub returns-clause-pairs : goal.returns-clause-pairs
returns-clause-pairs c j low =
    let v = c.args.bytes in
    get_or_wider 256 2 65536 8 v j refl (below_from_Fits w8 v c.fits-bytes.1) low ∙ pair_in v (2 * j) (omega (arith, low, c.fits-bytes.0))
