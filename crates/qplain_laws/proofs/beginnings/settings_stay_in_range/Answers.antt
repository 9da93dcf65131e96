use Rattle.qplain_laws.proofs.Ranging.{settings_stay_in_range, start_is_in_range}
use Rattle.qplain_laws.proofs.beginnings.settings_stay_in_range.Goals as goal

pub returns-clause-start : goal.returns-clause-start
returns-clause-start c = start_is_in_range

pub returns-clause-steps : goal.returns-clause-steps
returns-clause-steps c = settings_stay_in_range
