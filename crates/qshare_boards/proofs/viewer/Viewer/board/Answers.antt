use Rattle.std.proofs.Common.{rules}
use Rattle.qshare_boards.specs.Looks.{IsBoardAnswer}
use Rattle.qshare_boards.proofs.Balanced.{shown_whole}
use Rattle.qshare_boards.proofs.viewer.Viewer.board.Goals as goal

pub returns-clause-whole : goal.returns-clause-whole
returns-clause-whole g c =
    let looked = c.replace_with-prefix.result.looked in
    let is : IsBoardAnswer g.S.StoreId.id.begun looked.prefix.entries looked.shown = search rules in
    shown_whole g.S.StoreId.id.setting g.S.StoreId.id.begun looked.prefix.entries looked.shown c.self.invariant.0 is
