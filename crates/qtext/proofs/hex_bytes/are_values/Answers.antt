use Rattle.std.proofs.lemmas.Bool.{eqb-true}
use Rattle.qtext.proofs.ByteLanes.{values_below}
use Rattle.qtext.proofs.hex_bytes.are_values.Goals as goal

pub returns : goal.returns
returns c empty = values_below c.args.values c.fits-values.0 (eqb-true _ _ empty)
