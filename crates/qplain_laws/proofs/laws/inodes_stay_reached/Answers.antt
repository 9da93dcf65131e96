use Rattle.qplain_laws.proofs.Reached.{all_stay_reached, start_is_reached}
use Rattle.qplain_laws.proofs.laws.inodes_stay_reached.Goals as goal

pub returns-clause-start : goal.returns-clause-start
returns-clause-start c = start_is_reached

pub returns-clause-steps : goal.returns-clause-steps
returns-clause-steps c = all_stay_reached
