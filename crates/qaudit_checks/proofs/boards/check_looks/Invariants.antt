use Rattle.std.proofs.Common.{◌≡◌, ◌≤◌, length, take}
use Rattle.qaudit_checks.specs.LawfulBoards.{boards_in}
use Rattle.qaudit_checks.specs.SeenBoards.{AreSeenBoards}
use Rattle.qaudit_checks.proofs.boards.check_looks.Given as goal

abbrev pub invariant-loop-look : goal.invariant-loop-look
invariant-loop-look l = record {
  few : l.index ≤ l.look-index;
  index : l.index ≡ length (boards_in (take l.look-index l.looks));
  seen : AreSeenBoards l.fn.store.state l.entries (boards_in (take l.look-index l.looks)) l.checker;
}
