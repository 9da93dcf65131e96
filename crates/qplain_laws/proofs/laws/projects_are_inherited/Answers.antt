use Rattle.qplain_laws.proofs.Inheriting.{projects_are_inherited}
use Rattle.qplain_laws.proofs.laws.projects_are_inherited.Goals as goal

pub returns : goal.returns
returns c = projects_are_inherited
