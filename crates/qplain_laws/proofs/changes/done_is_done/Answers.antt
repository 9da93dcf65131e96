use Rattle.qplain_laws.proofs.DoneSteps.{done_is_done}
use Rattle.qplain_laws.proofs.changes.done_is_done.Goals as goal

pub returns : goal.returns
returns c = done_is_done
