use Rattle.std.proofs.Common.{ap, slice_range, ◌∙◌}
use Rattle.qplain.specs.Journal.{play}
use Rattle.qaudit_checks.proofs.SeenBoards.{played-on}
use Rattle.qaudit_checks.proofs.checker.Checker.go_on.Goals as goal

pub returns-clause-state : goal.returns-clause-state
returns-clause-state c S here =
    let entries = c.args.entries.now in
    let from = c.args.self.now.version in
    c.in_ok-play_on.ensures ∙ ap (λ T. play T (slice_range entries from c.args.version)) here
    ∙ played-on S entries from c.args.version c.requires.on
