use Rattle.qaudit_checks.proofs.Agree.{nothing_found}
use Rattle.qaudit_checks.proofs.laws.own_rows_agree.Goals as goal

pub returns : goal.returns
returns c = nothing_found
