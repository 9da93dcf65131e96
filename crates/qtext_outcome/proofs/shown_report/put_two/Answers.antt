use Rattle.qtext.proofs.Fronts.{refused_first}
use Rattle.qaudit.specs.Reports.{column}
use Rattle.qtext_outcome.proofs.shown_report.put_two.Goals as goal

pub returns-in_err-put_column : goal.returns-in_err-put_column
returns-in_err-put_column g c = refused_first _ _ _ (column c.args.one.now) (column c.args.other.now) c.from_residual.ensures.0 c.in_err-put_column.ensures
