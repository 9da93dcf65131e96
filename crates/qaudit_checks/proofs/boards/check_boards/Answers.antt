use Rattle.std.proofs.Common.{◌+◌, take, sym, ap, subst}
use Rattle.qaudit_checks.specs.SeenBoards.{AreSeenBoards, IsJudged}
use Rattle.qaudit_checks.proofs.SeenBoards.{fails-here, more-boards, verdict-fails}
use Rattle.qaudit_checks.proofs.boards.check_boards.Goals as goal

pub returns-then-not-branch : goal.returns-then-not-branch
returns-then-not-branch c =
    let S = c.args.store.state in
    let entries = c.args.entries.now in
    let boards = c.args.boards.now in
    let at = c.loop-board.board-index in
    let index = c.loop-board.index + 1 in
    let judged = c.in_ok-may_stand.ensures S (take at boards) c.loop-board.invariant.seen in
    verdict-fails S entries boards index
    (fails-here S entries boards at _ c.board-item.result index c.loop-board-test.true c.board-item.is (ap (λ n. n + 1) c.loop-board.invariant.index)
    c.loop-board.invariant.seen.lawful
    (subst (IsJudged S entries (take at boards) c.board-item.result c.may_stand.new.self) c.if-not-branch.true judged))

pub loop-board-preserved : goal.loop-board-preserved
loop-board-preserved c =
    let S = c.args.store.state in
    let entries = c.args.entries.now in
    let boards = c.args.boards.now in
    let at = c.loop-board.board-index in
    let judged = c.in_ok-may_stand.ensures S (take at boards) c.loop-board.invariant.seen in
    record {
      index = ap (λ n. n + 1) c.loop-board.invariant.index;
      seen = subst (λ seen. AreSeenBoards S entries seen c.may_stand.new.self)
          (sym (more-boards boards at _ c.board-item.result c.loop-board-test.true c.board-item.is))
          (subst (IsJudged S entries (take at boards) c.board-item.result c.may_stand.new.self) c.if-not-branch.false judged);
    }
