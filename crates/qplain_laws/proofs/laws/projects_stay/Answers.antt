use Rattle.qplain_laws.proofs.KeptProjects.{projects_stay}
use Rattle.qplain_laws.proofs.laws.projects_stay.Goals as goal

pub returns : goal.returns
returns c = projects_stay
