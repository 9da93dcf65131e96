use Rattle.qplain_laws.proofs.Giving.{owners_hold}
use Rattle.qplain_laws.proofs.Rights.{rights_hold}
use Rattle.qplain_laws.proofs.laws.rights_hold.Goals as goal

pub returns-clause-others : goal.returns-clause-others
returns-clause-others c = rights_hold

pub returns-clause-owners : goal.returns-clause-owners
returns-clause-owners c = owners_hold
