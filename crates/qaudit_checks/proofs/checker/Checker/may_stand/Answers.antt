use Rattle.qaudit_checks.proofs.SeenBoards.{judged-if, out-of-reach}
use Rattle.qaudit_checks.proofs.checker.Checker.may_stand.Goals as goal

pub returns-then-not-can_go_on : goal.returns-then-not-can_go_on
returns-then-not-can_go_on c S seen is =
    out-of-reach S c.args.entries.now seen c.args.board.now c.args.self.now c.can_go_on.result is c.can_go_on.ensures
    c.if-not-can_go_on.true

pub returns : goal.returns
returns c S seen is =
    let reaches = c.can_go_on.ensures.0 c.if-not-can_go_on.false in
    judged-if S c.args.entries.now seen c.args.board.now c.args.self.now c.go_on.new.self c.is_shown.result is reaches.0 reaches.1
    c.in_ok-go_on.ensures.version (c.in_ok-go_on.ensures.state S is.state) c.is_shown.ensures
