use Rattle.std.proofs.Common.{[], false}
use Rattle.qtool_files.proofs.Boards.{ends, writes_again}
use Rattle.qtool_files.proofs.board_file.BoardFileMonitor.end.Goals as goal

pub returns-in-Ok : goal.returns-in-Ok
returns-in-Ok g c =
    rw (c.if-refused.false, c.in-Some.is)
    (writes_again c.args.self.setup c.args.self.name.now _ _ c.in-Some.text.items
    (c.look.new.self.last, rw c.deref.ensures.value at c.in-Ok.ensures.ok) [] false _
    (ends c.args.self.setup c.args.self.name.now _))
