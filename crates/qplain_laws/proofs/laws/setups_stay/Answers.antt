use Rattle.qplain_laws.proofs.Kept.{limits_stay, setups_stay}
use Rattle.qplain_laws.proofs.laws.setups_stay.Goals as goal

pub returns-clause-setup : goal.returns-clause-setup
returns-clause-setup c = setups_stay

pub returns-clause-limits : goal.returns-clause-limits
returns-clause-limits c = limits_stay
