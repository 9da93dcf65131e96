use Rattle.std.proofs.Common.{◌++◌, codes}
use Rattle.qtext.proofs.Fronts.{refused_first}
use Rattle.qtext_outcome.specs.Reports.{inode_columns, space_columns}
use Rattle.qtext_outcome.proofs.shown_report.put_amounts.Goals as goal

pub returns-in_err-put_space : goal.returns-in_err-put_space
returns-in_err-put_space g c =
    refused_first _ _ _ (space_columns c.args.moment c.args.row.now) (inode_columns c.args.moment c.args.row.now ++ codes "\n")
    c.from_residual.ensures.0 c.in_err-put_space.ensures
