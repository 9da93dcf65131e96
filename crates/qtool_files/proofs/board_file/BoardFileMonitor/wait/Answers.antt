use Rattle.std.proofs.Common.{[]}
use Rattle.qtool_files.proofs.Boards.{refuses, writes_again}
use Rattle.qtool_files.proofs.board_file.BoardFileMonitor.wait.Goals.{then-not-self+then-is_due+in-Some+in-Ok, then-not-self+then-is_due+in-Some+in-Err, else-not-self, else-not-self-via-else-not-self, else-not-self-via-then-not-self+else-is_due, else-not-self-via-then-not-self+then-is_due+in-None-1}
use Rattle.qtool_files.proofs.board_file.BoardFileMonitor.wait.Goals as goal

pub returns : goal.returns
returns g c = λ boards left is. elim c.if-not-self.branch [
  | then-not-self+then-is_due+in-Some+in-Ok w ↦ rw (w.if-not-self.true, w.in-Some.is)
      (writes_again c.args.self.now.setup c.args.self.now.name.now _ _ w.in-Some.text.items
      (w.is_due.new.self.last, rw w.deref.ensures.value at w.in-Ok.ensures.ok) boards left.refused _
      (rw (w.self-is, w.if-not-self.true, w.in-Some.is) at is))
  | then-not-self+then-is_due+in-Some+in-Err w ↦
      refuses c.args.self.now.setup c.args.self.now.name.now _ _ _ _ _ _ [] boards left.refused w.in-Err.ensures.err
      (rw w.self-is at is)
  | else-not-self w ↦ elim w.else-not-self.branch [
    | else-not-self-via-else-not-self w' ↦ rw (w.self-is, w'.self-is) at is
    | else-not-self-via-then-not-self+else-is_due w' ↦ rw (w.self-is, w'.self-is) at is
    | else-not-self-via-then-not-self+then-is_due+in-None-1 w' ↦ rw (w.self-is, w'.self-is) at is
  ]
]
