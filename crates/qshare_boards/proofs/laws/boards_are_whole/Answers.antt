use Rattle.qshare_boards.proofs.Balanced.{boards_are_whole}
use Rattle.qshare_boards.proofs.laws.boards_are_whole.Goals as goal

pub returns : goal.returns
returns c = boards_are_whole
