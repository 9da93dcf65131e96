use Rattle.qplain_laws.proofs.Asking.{superuser_meets_no_quota}
use Rattle.qplain_laws.proofs.changes.superuser_meets_no_quota.Goals as goal

pub returns : goal.returns
returns c = superuser_meets_no_quota
