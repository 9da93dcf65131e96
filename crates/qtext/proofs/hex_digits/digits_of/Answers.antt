use Rattle.qtext.proofs.DigitLanes.{digits_are}
use Rattle.qtext.proofs.hex_digits.digits_of.Goals as goal

pub returns : goal.returns
returns c = digits_are c.args.values c.fits-values.0 c.requires
