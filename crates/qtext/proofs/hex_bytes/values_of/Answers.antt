use Rattle.qtext.proofs.ByteLanes.{values_are}
use Rattle.qtext.proofs.hex_bytes.values_of.Goals as goal

pub returns : goal.returns
returns c = values_are c.args.digits c.fits-digits.0 c.fits-digits.1
