use Rattle.qplain_laws.proofs.Running.{graces_run_on}
use Rattle.qplain_laws.proofs.changes.graces_run_on.Goals as goal

pub returns : goal.returns
returns c = graces_run_on
