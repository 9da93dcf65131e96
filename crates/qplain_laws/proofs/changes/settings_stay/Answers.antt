use Rattle.qplain_laws.proofs.Setting.{settings_stay}
use Rattle.qplain_laws.proofs.changes.settings_stay.Goals as goal

pub returns : goal.returns
returns c = settings_stay
