use Rattle.std.proofs.Common.{◌++◌}
use Rattle.qtext.proofs.Fronts.{refused_first}
use Rattle.qaudit.specs.Reports.{column, grace_text}
use Rattle.qtext_outcome.specs.Units.{count_text}
use Rattle.qtext_outcome.proofs.shown_report.put_inodes.Goals as goal

pub returns-in_err-put_two : goal.returns-in_err-put_two
returns-in_err-put_two g c =
    let r = c.args.row.now in
    refused_first _ _ _ (column (count_text r.inodes) ++ column (count_text r.limits.inode_soft))
    (column (count_text r.limits.inode_hard) ++ column (grace_text c.args.moment r.inode_end)) c.from_residual.ensures.0
    (rw (c.count.ensures, c.count-2.ensures) at c.in_err-put_two.ensures)
