use Rattle.qplain_laws.proofs.Lawful.{steps_stay_lawful}
use Rattle.qplain_laws.proofs.Start.{start_is_lawful}
use Rattle.qplain_laws.proofs.laws.stores_stay_lawful.Goals as goal

pub returns-clause-start : goal.returns-clause-start
returns-clause-start c = start_is_lawful

pub returns-clause-steps : goal.returns-clause-steps
returns-clause-steps c = steps_stay_lawful
