use Rattle.std.proofs.Common.{codes}
use Rattle.qtext.proofs.Fronts.{refused_first, writes_then}
use Rattle.qtext_outcome.specs.Reports.{inode_columns}
use Rattle.qtext_outcome.proofs.shown_report.put_last.Goals as goal

pub returns-in_err-put_inodes : goal.returns-in_err-put_inodes
returns-in_err-put_inodes g c =
    refused_first _ _ _ (inode_columns c.args.moment c.args.row.now) (codes "\n") c.from_residual.ensures.0
    c.in_err-put_inodes.ensures

pub returns : goal.returns
returns g c = writes_then _ _ _ _ (inode_columns c.args.moment c.args.row.now) (codes "\n") c.in_ok-put_inodes.ensures c.put.ensures
