use Rattle.std.proofs.Common.{◌≡◌, take}
use Rattle.qaudit_checks.specs.SeenBoards.{AreSeenBoards}
use Rattle.qaudit_checks.proofs.boards.check_boards.Given as goal

abbrev pub invariant-loop-board : goal.invariant-loop-board
invariant-loop-board l = record {
  index : l.index ≡ l.board-index;
  seen : AreSeenBoards l.fn.store.state l.entries (take l.board-index l.boards) l.checker;
}
