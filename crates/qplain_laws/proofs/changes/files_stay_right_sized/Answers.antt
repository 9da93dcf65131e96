use Rattle.qplain_laws.proofs.Sizing.{files_stay_right_sized, start_is_right_sized}
use Rattle.qplain_laws.proofs.changes.files_stay_right_sized.Goals as goal

pub returns-clause-start : goal.returns-clause-start
returns-clause-start c = start_is_right_sized

pub returns-clause-steps : goal.returns-clause-steps
returns-clause-steps c = files_stay_right_sized
