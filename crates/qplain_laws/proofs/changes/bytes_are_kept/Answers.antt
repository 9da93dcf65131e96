use Rattle.qplain_laws.proofs.Reading.{bytes_are_cut, bytes_are_read, bytes_are_written}
use Rattle.qplain_laws.proofs.changes.bytes_are_kept.Goals as goal

pub returns-clause-written : goal.returns-clause-written
returns-clause-written c = bytes_are_written

pub returns-clause-cut : goal.returns-clause-cut
returns-clause-cut c = bytes_are_cut

pub returns-clause-read : goal.returns-clause-read
returns-clause-read c = bytes_are_read
