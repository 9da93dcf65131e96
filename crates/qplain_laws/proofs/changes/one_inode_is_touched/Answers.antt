use Rattle.std.proofs.Common.{refl}
use Rattle.qplain_laws.proofs.TouchedRecords.{one_inode_is_touched}
use Rattle.qplain_laws.proofs.changes.one_inode_is_touched.Goals as goal

pub returns-clause-touched : goal.returns-clause-touched
returns-clause-touched c = one_inode_is_touched

pub returns-clause-rows : goal.returns-clause-rows
returns-clause-rows c = refl
