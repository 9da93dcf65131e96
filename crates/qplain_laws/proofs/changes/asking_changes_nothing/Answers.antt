use Rattle.qplain_laws.proofs.Asking.{asking_changes_nothing}
use Rattle.qplain_laws.proofs.changes.asking_changes_nothing.Goals as goal

pub returns : goal.returns
returns c = asking_changes_nothing
