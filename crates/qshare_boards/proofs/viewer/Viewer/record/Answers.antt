use Rattle.qshare_boards.proofs.Balanced.{boards_are_whole}
use Rattle.qshare_boards.proofs.viewer.Viewer.record.Goals as goal

pub returns-clause-whole : goal.returns-clause-whole
returns-clause-whole g c = boards_are_whole _ _ _ c.self.invariant.0
