use Rattle.qplain_laws.proofs.OtherNames.{other_names_stay}
use Rattle.qplain_laws.proofs.changes.other_names_stay.Goals as goal

pub returns : goal.returns
returns c = other_names_stay
