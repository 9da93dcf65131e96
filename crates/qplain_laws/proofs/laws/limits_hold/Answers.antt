use Rattle.qplain_laws.proofs.Within.{limits_hold}
use Rattle.qplain_laws.proofs.laws.limits_hold.Goals as goal

pub returns : goal.returns
returns c = limits_hold
