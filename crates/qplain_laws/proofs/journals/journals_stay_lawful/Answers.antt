use Rattle.qplain_laws.proofs.Tallying.{journals_stay_lawful}
use Rattle.qplain_laws.proofs.journals.journals_stay_lawful.Goals as goal

pub returns : goal.returns
returns c = journals_stay_lawful
