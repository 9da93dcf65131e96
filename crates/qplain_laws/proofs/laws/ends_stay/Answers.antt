use Rattle.qplain_laws.proofs.Ends.{ends_stay}
use Rattle.qplain_laws.proofs.laws.ends_stay.Goals as goal

pub returns : goal.returns
returns c = ends_stay
