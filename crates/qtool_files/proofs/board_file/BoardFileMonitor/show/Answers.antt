use Rattle.qtool_files.proofs.Boards.{writes}
use Rattle.qtool_files.proofs.board_file.BoardFileMonitor.show.Goals as goal

pub returns-in-Ok-show_board : goal.returns-in-Ok-show_board
returns-in-Ok-show_board g c = λ boards left is.
    let text = rw (c.deref.ensures.value, c.in-Ok.ensures) at c.in-Ok-show_board.ensures.ok in
    rw c.if-self.false
    (writes c.args.self.now.setup c.args.self.now.name.now _ _ _ _ c.args.board.now boards left.refused
    (c.look_for_board.new.self.last, text) (rw (c.if-self.false, c.in-Ok.ensures) at is))
