use Rattle.qplain_laws.proofs.Telling.{bytes_are_true, quotas_are_true, stats_are_true}
use Rattle.qplain_laws.proofs.changes.answers_are_true.Goals as goal

pub returns-clause-bytes : goal.returns-clause-bytes
returns-clause-bytes c = bytes_are_true

pub returns-clause-stats : goal.returns-clause-stats
returns-clause-stats c = stats_are_true

pub returns-clause-quotas : goal.returns-clause-quotas
returns-clause-quotas c = quotas_are_true
