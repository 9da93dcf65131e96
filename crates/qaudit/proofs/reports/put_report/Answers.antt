use Rattle.qaudit.specs.Reports.{row_text}
use Rattle.qtext.proofs.Fronts.{rows_end, rows_go_on, rows_refused}
use Rattle.qaudit.proofs.reports.put_report.Goals as goal

pub loop-row-preserved : goal.loop-row-preserved
loop-row-preserved g c = rows_go_on _ _ _ (row_text c.args.moment) _ _ c.row-item.result _ c.row-item.is
    c.loop-row.invariant c.in_ok-put_row.ensures c.loop-row-test.true

pub returns-in_err-put_row : goal.returns-in_err-put_row
returns-in_err-put_row g c =
    rows_refused _ _ _ _ (row_text c.args.moment) _ _ c.row-item.result _ c.row-item.is
    c.from_residual.ensures.0 c.loop-row.invariant c.in_err-put_row.ensures c.loop-row-test.true

pub returns : goal.returns
returns g c = rows_end _ _ (row_text c.args.moment) _ _ c.loop-row.invariant c.loop-row-test.false
