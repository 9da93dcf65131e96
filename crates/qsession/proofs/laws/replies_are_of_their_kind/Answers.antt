use Rattle.qsession.proofs.Replying.{changes_are_done, quotas_tell_records, reads_tell_bytes, stats_tell_numbers}
use Rattle.qsession.proofs.laws.replies_are_of_their_kind.Goals as goal

pub returns-clause-changes : goal.returns-clause-changes
returns-clause-changes c = changes_are_done

pub returns-clause-reads : goal.returns-clause-reads
returns-clause-reads c = reads_tell_bytes

pub returns-clause-stats : goal.returns-clause-stats
returns-clause-stats c = stats_tell_numbers

pub returns-clause-quotas : goal.returns-clause-quotas
returns-clause-quotas c = quotas_tell_records
