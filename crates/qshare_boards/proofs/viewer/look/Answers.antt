use Rattle.qshare_boards.proofs.Rules.{looks}
use Rattle.qshare_boards.proofs.viewer.look.Goals as goal

pub enter_as-requires : goal.enter_as-requires
enter_as-requires g c x = looks _ _ _ _ x
