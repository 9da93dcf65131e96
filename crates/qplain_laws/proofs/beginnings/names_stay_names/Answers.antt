use Rattle.qplain_laws.proofs.PathNaming.{names_stay_names}
use Rattle.qplain_laws.proofs.beginnings.names_stay_names.Goals as goal

pub returns : goal.returns
returns c = names_stay_names
