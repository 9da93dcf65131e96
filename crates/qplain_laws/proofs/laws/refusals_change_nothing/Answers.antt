use Rattle.qplain_laws.proofs.Refused.{refusals_change_nothing}
use Rattle.qplain_laws.proofs.laws.refusals_change_nothing.Goals as goal

pub returns : goal.returns
returns c = refusals_change_nothing
