use Rattle.qplain_laws.proofs.Overwriting.{overwrites_are_granted}
use Rattle.qplain_laws.proofs.laws.overwrites_are_granted.Goals as goal

pub returns : goal.returns
returns c = overwrites_are_granted
