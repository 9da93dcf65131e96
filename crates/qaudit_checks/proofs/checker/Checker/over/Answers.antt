use Rattle.std.proofs.Common.{refl}
use Rattle.qaudit_checks.proofs.SeenBoards.{none-seen}
use Rattle.qaudit_checks.proofs.checker.Checker.over.Goals as goal

pub returns : goal.returns
returns c journal = none-seen c.args.store.state journal _ refl refl
